-- Laws of what is printed: its digits one after the other, and that what is printed is read back.
use mathlib.Core.Path.{◌≡◌, refl, sym, ap, ◌∙◌}
use Prim.Native.Nat.{ℕ, zero, suc, ◌+◌, ◌-◌, ◌*◌, ◌/◌, ◌%◌, ◌^◌, ◌≤◌, ◌<◌}
use native.Mathlib.Nat.{pow-suc}
use native.Mathlib.Omega.{arith}
use mathlib.Core.List.{List, [], ◌∷◌, ◌++◌, append_assoc, append-nil}
use mathlib.Core.Bool.{true}
use lib.ListN.{length, drop, set, length-append, length-drop, drop_of_length-le}
use lib.Dec.{ltb}
use borrow.Author.Tests.{ltb-true, ltb-false, lt-ltb, le-ltb, le-leb, eq-eqb}
use Rattle.chars.specs.Gather.{gather, every}
use Rattle.chars.specs.Word.{Characters}
use Rattle.lines.specs.Line.{stretch, time, hex_val, is_hex, is_decimal, pairs, value_from, stretch_of, time_from, time_said, field_of, fields_of, says_of, decimal_in, decimal, hex_digit, hex_of, reply_of, column_of, shown_of, other_line}
use Rattle.lines.specs.declared.Page.{Page}
use Rattle.lines.specs.Wrote.{Adds}
use Rattle.lines.proofs.Tests.{by_test, every_append, drop_set_at}
use Rattle.lines.proofs.WroteLaws.{adds_join}
use Rattle.lines.proofs.ReadLaws.{time-some}

-- ---- decimal

in_small : (k n : ℕ) → n < 10 → decimal_in (suc k) n ≡ (48 + n) ∷ []
unfolding decimal_in
in_small k n h = rw (lt-ltb n 10 h)

in_more : (k n : ℕ) → 9 < n → decimal_in (suc k) n ≡ decimal_in k (n / 10) ++ ((48 + n % 10) ∷ [])
unfolding decimal_in
in_more k n h = rw (le-ltb n 10 (omega arith))

-- how many digits are allowed for does not matter, where they are enough
enough : (k m n : ℕ) → n < k → n < m → decimal_in k n ≡ decimal_in m n
enough zero m n h j = absurd (omega arith)
enough (suc k) zero n h j = absurd (omega arith)
enough (suc k) (suc m) n h j =
    by_test
    (ltb n 10)
    (λ e. in_small k n (ltb-true _ _ e) ∙ sym (in_small m n (ltb-true _ _ e)))
    (λ e.
    let b : 10 ≤ n = ltb-false _ _ e in
    let d : decimal_in k (n / 10) ≡ decimal_in m (n / 10) = enough k m (n / 10) (omega arith) (omega arith) in
    in_more k n (omega arith) ∙ rw d (sym (in_more m n (omega arith))))

pub decimal-small : (n : ℕ) → n < 10 → decimal n ≡ (48 + n) ∷ []
unfolding decimal
decimal-small n h = in_small n n h

pub decimal-more : (n : ℕ) → 9 < n → decimal n ≡ decimal (n / 10) ++ ((48 + n % 10) ∷ [])
unfolding decimal
decimal-more n h = in_more n n h ∙ rw (enough n (suc (n / 10)) (n / 10) (omega arith) (omega arith))

-- what holds of a number of one digit, and of a number where it holds of the digits before the last, holds of every number
by_digits : (P : ℕ → Type 0) → ((n : ℕ) → n < 10 → P n) → ((n : ℕ) → 9 < n → P (n / 10) → P n) → (k n : ℕ) → n < k → P n
by_digits P one more zero n h = absurd (omega arith)
by_digits P one more (suc k) n h =
    by_test
    (ltb n 10)
    (λ e. one n (ltb-true _ _ e))
    (λ e. let b : 10 ≤ n = ltb-false _ _ e in more n (omega arith) (by_digits P one more k (n / 10) (omega arith)))

pub decimal-some : (n : ℕ) → 0 < length (decimal n)
decimal-some n =
    by_test
    (ltb n 10)
    (λ e. rw (decimal-small n (ltb-true _ _ e)) (omega arith))
    (λ e. let b : 10 ≤ n = ltb-false _ _ e in rw (decimal-more n (omega arith), length-append) (omega arith))

pub decimal-most : (k n : ℕ) → n < 10 ^ suc k → length (decimal n) ≤ suc k
decimal-most zero n h = rw (decimal-small n h) (omega arith)
decimal-most (suc k) n h =
    by_test
    (ltb n 10)
    (λ e. rw (decimal-small n (ltb-true _ _ e)) (omega arith))
    (λ e.
    let b : 10 ≤ n = ltb-false _ _ e in
    let d : n / 10 < 10 ^ suc k = omega (arith, pow-suc 10 (suc k)) in
    rw (decimal-more n (omega arith), length-append) (omega (arith, decimal-most k (n / 10) d)))

value_append : (v : ℕ) (xs ys : List ℕ) → value_from v (xs ++ ys) ≡ value_from (value_from v xs) ys
unfolding value_from
value_append v [] ys = refl
value_append v (x ∷ xs) ys = value_append (v * 10 + (x - 48)) xs ys

value-one : (v d : ℕ) → value_from v (d ∷ []) ≡ v * 10 + (d - 48)
unfolding value_from
value-one v d = refl

-- the number that was printed is read back
pub decimal-back : (n : ℕ) → value_from 0 (decimal n) ≡ n
decimal-back n =
    by_digits
    (λ n. value_from 0 (decimal n) ≡ n)
    (λ n h. rw (decimal-small n h, value-one) (omega arith))
    (λ n h e. rw (decimal-more n h, value_append, e, value-one) (omega arith))
    (suc n)
    n
    (omega arith)

digit_is : (n : ℕ) → n < 10 → every is_decimal ((48 + n) ∷ []) ≡ true
unfolding every is_decimal
digit_is n h = simp (le-leb 48 (48 + n) (omega arith), le-leb (48 + n) 57 (omega arith))

pub decimal-digits : (n : ℕ) → every is_decimal (decimal n) ≡ true
decimal-digits n =
    by_digits
    (λ n. every is_decimal (decimal n) ≡ true)
    (λ n h. rw (decimal-small n h) (digit_is n h))
    (λ n h e. rw (decimal-more n h) (every_append is_decimal (decimal (n / 10)) ((48 + n % 10) ∷ []) e (digit_is (n % 10) (omega arith))))
    (suc n)
    n
    (omega arith)

time-line : (ds : List ℕ) → length ds ≤ 1998 → says_of (84 ∷ 9 ∷ ds) ≡ time_said ds
unfolding says_of fields_of field_of
time-line ds h = rw (le-leb (suc (suc (length ds))) 2000 (omega arith))

-- a line with the digits of a number says that time
pub time-back : (n : ℕ) → n ≤ 4294967295 → says_of (84 ∷ 9 ∷ decimal n) ≡ time n
unfolding time_from
time-back n h =
    time-line (decimal n) (omega (arith, decimal-most 9 n (omega arith)))
    ∙ time-some (decimal n) (λ z. omega (arith, decimal-some n))
    ∙ rw (decimal-digits n, decimal-back n, le-leb n 4294967295 h)

-- ---- the digits of a number from the last to the first, in a buffer of which they fill the end

pub digits-none : (n : ℕ) (buf : List ℕ) (i : ℕ) → length buf ≤ i → decimal n ≡ decimal n ++ drop i buf
digits-none n buf i h = rw (drop_of_length-le buf h, append-nil)

module _ (n left i : ℕ) (buf : List ℕ) (h : decimal n ≡ decimal left ++ drop i buf) where
  module _ (long : length buf ≡ 20) (fits : n < 2 ^ 64) where
    pub digits-room : 0 < i
    digits-room =
        let m : length (decimal n) ≤ 20 = decimal-most 19 n (omega arith) in
        omega (arith, simp (length-append, length-drop) at (ap length h), decimal-some left)

  module _ (j v : ℕ) (at : j + 1 ≡ i) (fits : j < length buf) where
    stored : drop j (set buf j v) ≡ v ∷ drop i buf
    stored = drop_set_at buf j v fits ∙ rw at

    pub digits_more : 9 < left → v ≡ 48 + left % 10 → decimal n ≡ decimal (left / 10) ++ drop j (set buf j v)
    digits_more b e = h ∙ rw (decimal-more left b, append_assoc, stored, e)

    pub digits_last : left < 10 → v ≡ 48 + left → drop j (set buf j v) ≡ decimal n
    digits_last b e = sym (h ∙ rw (decimal-small left b, stored, e))

-- ---- hex

pub hex_both : (c a b : ℕ) → a ≡ hex_digit (c / 16) → b ≡ hex_digit (c % 16) → (a ∷ []) ++ (b ∷ []) ≡ hex_of c
unfolding hex_of
hex_both c a b p q = rw (p, q)

pub reply-none : (cs : List ℕ) (d : ℕ) → length cs ≡ 0 → d ≡ 45 → d ∷ [] ≡ reply_of cs
unfolding reply_of
reply-none [] d h e = rw e
reply-none (c ∷ cs) d h e = absurd (omega arith)

pub reply-some : (cs : List ℕ) → (length cs ≡ 0 → ⊥) → gather hex_of cs ≡ reply_of cs
unfolding reply_of
reply-some [] h = absurd (h refl)
reply-some (c ∷ cs) h = refl

hex_back : (v : ℕ) → v < 16 → hex_val (hex_digit v) ≡ v
unfolding hex_val hex_digit
hex_back v h =
    by_test
    (ltb v 10)
    (λ e.
    let b : v < 10 = ltb-true _ _ e in
    rw e (simp (le-ltb (48 + v) 48 (omega arith), lt-ltb (48 + v) 58 (omega arith)) (omega arith)))
    (λ e.
    let b : 10 ≤ v = ltb-false _ _ e in
    rw
    e
    (simp
    (le-ltb (55 + v) 48 (omega arith), le-ltb (55 + v) 58 (omega arith), le-ltb (55 + v) 65 (omega arith), lt-ltb (55 + v) 71 (omega arith))
    (omega arith)))

hex_is : (v : ℕ) → v < 16 → is_hex (hex_digit v) ≡ true
unfolding is_hex
hex_is v h = rw (hex_back v h) (lt-ltb v 16 h)

pub hex_digits : (cs : List ℕ) → Characters cs → every is_hex (gather hex_of cs) ≡ true
unfolding every gather hex_of
hex_digits [] h = refl
hex_digits (c ∷ cs) h =
    let b : c < 256 = h 0 in
    rw (hex_is (c / 16) (omega arith), hex_is (c % 16) (omega arith)) (hex_digits cs (λ i. h (suc i)))

-- the characters that were printed are read back
pub pairs-back : (cs : List ℕ) → Characters cs → pairs (gather hex_of cs) ≡ cs
unfolding pairs gather hex_of
pairs-back [] h = refl
pairs-back (c ∷ cs) h =
    let b : c < 256 = h 0 in
    let e : 16 * (c / 16) + c % 16 ≡ c = omega arith in
    rw (hex_back (c / 16) (omega arith), hex_back (c % 16) (omega arith), e, pairs-back cs (λ i. h (suc i)))

pub length_hex : (cs : List ℕ) → length (gather hex_of cs) ≡ 2 * length cs
unfolding gather hex_of
length_hex [] = refl
length_hex (c ∷ cs) = omega (arith, length_hex cs)

stretch-line : (ds : List ℕ) → length ds ≤ 1998 → says_of (82 ∷ 9 ∷ ds) ≡ stretch_of ds
unfolding says_of fields_of field_of
stretch-line ds h = rw (le-leb (suc (suc (length ds))) 2000 (omega arith))

-- a line with the hex of a stretch says that stretch
pub stretch-back : (cs : List ℕ) → Characters cs → length cs ≤ 999 → says_of (82 ∷ 9 ∷ gather hex_of cs) ≡ stretch cs
unfolding stretch_of
stretch-back cs h k =
    stretch-line (gather hex_of cs) (omega (arith, length_hex cs))
    ∙ rw (eq-eqb (length (gather hex_of cs) % 2) 0 (omega (arith, length_hex cs)), hex_digits cs h, pairs-back cs h)

-- ---- the parts of what is printed, as they are written

pub column_added : {p q r : Page} (n : ℕ) → Adds p q (decimal n) → Adds q r (9 ∷ []) → Adds p r (column_of n)
unfolding column_of
column_added n w x = adds_join w x

pub shown_added : {p q r s t : Page} (n o : ℕ) (cs : List ℕ) → Adds p q (column_of n) → Adds q r (column_of o) → Adds r s (reply_of cs) → Adds s t (10 ∷ [])
    → Adds p t (shown_of n o cs)
unfolding shown_of
shown_added n o cs u v w x = adds_join (adds_join (adds_join u v) w) x

pub other_added : {p q r : Page} (n : ℕ) → Adds p q (column_of n) → Adds q r (45 ∷ 9 ∷ 45 ∷ 10 ∷ []) → Adds p r (other_line n)
unfolding other_line
other_added n w x = adds_join w x

-- ---- the room that they need

length_column : (n k : ℕ) → n < 10 ^ suc k → length (column_of n) ≤ suc k + 1
unfolding column_of
length_column n k h = rw length-append (omega (arith, decimal-most k n h))

length-reply : (cs : List ℕ) → length (reply_of cs) ≤ 2 * length cs + 1
unfolding reply_of
length-reply [] = omega arith
length-reply (c ∷ cs) = omega (arith, length_hex (c ∷ cs))

pub shown-most : (n o : ℕ) (cs : List ℕ) → n < 2 ^ 64 → o < 256 → length (shown_of n o cs) ≤ 27 + 2 * length cs
unfolding shown_of
shown-most n o cs h k =
    simp length-append (omega (arith, length_column n 19 (omega arith), length_column o 2 (omega arith), length-reply cs))

pub other-most : (n : ℕ) → n < 2 ^ 64 → length (other_line n) ≤ 25
unfolding other_line
other-most n h = rw length-append (omega (arith, length_column n 19 (omega arith)))
