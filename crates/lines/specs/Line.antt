-- The lines of the bench program: what one says, and what is printed for it (document 01, Bench cases).
use Rattle.std.specs.Prelude.{ℕ, zero, suc, ◌+◌, ◌-◌, ◌*◌, ◌/◌, ◌%◌, List, [], ◌∷◌, ◌++◌, Bool, cond, ◌&&◌, length, leb, ltb, eqb}
use Rattle.chars.specs.Gather.{gather, every}
use Rattle.lines.specs.declared.Line.{Line}

-- ---- what a line says

-- a stretch of characters, a time in milliseconds, or a line of another form
pub data Says : Type 0 where
  stretch : List ℕ → Says
  time : ℕ → Says
  other : Says

-- what a digit of capital hex is worth: 0 to 9, A to F; 16 is no digit
unfoldable pub hex_val : ℕ → ℕ
hex_val b =
    cond (ltb b 48) 16
    (cond (ltb b 58) (b - 48)
    (cond (ltb b 65) 16
    (cond (ltb b 71) (b - 55) 16)))

unfoldable pub is_hex : ℕ → Bool
is_hex b = ltb (hex_val b) 16

unfoldable pub is_decimal : ℕ → Bool
is_decimal b = leb 48 b && leb b 57

-- the characters of hex digits, two for each, high one first
unfoldable pub pairs : List ℕ → List ℕ
pairs [] = []
pairs (a ∷ []) = []
pairs (a ∷ b ∷ ds) = (16 * hex_val a + hex_val b) ∷ pairs ds

-- the number of decimal digits behind those that are worth v
unfoldable pub value_from : ℕ → List ℕ → ℕ
value_from v [] = v
value_from v (d ∷ ds) = value_from (v * 10 + (d - 48)) ds

unfoldable pub stretch_of : List ℕ → Says
stretch_of ds = cond (eqb (length ds % 2) 0) (cond (every is_hex ds) (stretch (pairs ds)) other) other

unfoldable pub time_from : ℕ → List ℕ → Says
time_from v ds = cond (every is_decimal ds) (cond (leb (value_from v ds) 4294967295) (time (value_from v ds)) other) other

-- one digit or more
unfoldable pub time_said : List ℕ → Says
time_said [] = other
time_said (d ∷ ds) = time_from 0 (d ∷ ds)

-- R is 82, T is 84
unfoldable pub field_of : ℕ → List ℕ → Says
field_of k ds = cond (eqb k 82) (stretch_of ds) (cond (eqb k 84) (time_said ds) other)

-- a tab is 9
unfoldable pub fields_of : List ℕ → Says
fields_of [] = other
fields_of (k ∷ []) = other
fields_of (k ∷ t ∷ ds) = cond (eqb t 9) (field_of k ds) other

-- a line without its line end
unfoldable pub says_of : List ℕ → Says
says_of l = cond (leb (length l) 2000) (fields_of l) other

-- the stretch of a line: only such a line has one
unfoldable pub stretch_in : Says → List ℕ
stretch_in (stretch s) = s
stretch_in (time v) = []
stretch_in other = []

-- what is answered: of a stretch how long it is
unfoldable pub line_of : Says → Line
line_of (stretch s) = Line.Stretch (length s)
line_of (time v) = Line.Time v
line_of other = Line.Other

-- ---- what is printed

-- the decimal digits of n, where k are enough
unfoldable pub decimal_in : ℕ → ℕ → List ℕ
decimal_in zero n = []
decimal_in (suc k) n = cond (ltb n 10) ((48 + n) ∷ []) (decimal_in k (n / 10) ++ ((48 + n % 10) ∷ []))

unfoldable pub decimal : ℕ → List ℕ
decimal n = decimal_in (suc n) n

unfoldable pub hex_digit : ℕ → ℕ
hex_digit v = cond (ltb v 10) (48 + v) (55 + v)

unfoldable pub hex_of : ℕ → List ℕ
hex_of c = hex_digit (c / 16) ∷ hex_digit (c % 16) ∷ []

-- a reply in capital hex, or a dash (45)
unfoldable pub reply_of : List ℕ → List ℕ
reply_of [] = 45 ∷ []
reply_of (c ∷ cs) = gather hex_of (c ∷ cs)

-- a number and a tab
unfoldable pub column_of : ℕ → List ℕ
column_of n = decimal n ++ (9 ∷ [])

-- a line end is 10
unfoldable pub shown_of : ℕ → ℕ → List ℕ → List ℕ
shown_of number outcome reply = column_of number ++ column_of outcome ++ reply_of reply ++ (10 ∷ [])

-- for a line of another form
unfoldable pub other_line : ℕ → List ℕ
other_line number = column_of number ++ (45 ∷ 9 ∷ 45 ∷ 10 ∷ [])
