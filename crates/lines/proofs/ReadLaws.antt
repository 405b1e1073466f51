-- Laws of what a line says: how its digits are read one after the other, and the bounds of what it says.
use mathlib.Core.Path.{◌≡◌, refl, sym, ap, ◌∙◌}
use Prim.Native.Nat.{ℕ, zero, suc, ◌+◌, ◌-◌, ◌*◌, ◌/◌, ◌%◌, ◌≤◌, ◌<◌, min}
use native.Mathlib.Numerals.{add-one}
use native.Mathlib.Omega.{arith}
use mathlib.Core.List.{List, [], ◌∷◌}
use mathlib.Core.Bool.{Bool, true, false, cond}
use lib.ListN.{length, take, drop, get_or, set, drop_of_length-le, length-drop}
use lib.Seq.{drop-cons, take_all}
use lib.Dec.{leb, eqb}
use borrow.Author.Tests.{eqb-true, eqb-false, ltb-true, leb-true, le-leb, lt-leb, eq-eqb, ne_eqb}
use Rattle.std.specs.Prelude.{Option, Some, None, MatchOption}
use Rattle.chars.specs.Put.{put, part}
use Rattle.chars.specs.Gather.{every}
use Rattle.chars.proofs.PutLaws.{put-none, part-whole, copy_more, copy_clipped}
use Rattle.lines.specs.Line.{Says, stretch, time, other, hex_val, is_hex, is_decimal, pairs, value_from, stretch_of, time_from, time_said, field_of, fields_of, says_of, stretch_in, line_of}
use Rattle.lines.specs.declared.Line.{Line}
use Rattle.lines.proofs.Tests.{by_test, cond_same, cond_and, every_at}

-- ---- hex digits

pub hex_below : (b : ℕ) → is_hex b ≡ true → hex_val b < 16
unfolding is_hex
hex_below b e = ltb-true _ _ e

-- a digit of a stretch is worth less than 16
module _ (ds : List ℕ) (i r : ℕ) (h : i < length ds) (e : r ≡ hex_val (get_or ds i 0)) where
  pub hex_at : every is_hex ds ≡ true → r < 16
  hex_at a = omega (arith, hex_below (get_or ds i 0) (every_at is_hex ds i a h))

pub length_pairs : (ds : List ℕ) → length (pairs ds) ≡ length ds / 2
unfolding pairs
length_pairs [] = refl
length_pairs (a ∷ []) = refl
length_pairs (a ∷ b ∷ ds) = omega (arith, length_pairs ds)

pub pairs_at : (ds : List ℕ) (i : ℕ) → 2 * i + 1 < length ds → get_or (pairs ds) i 0 ≡ 16 * hex_val (get_or ds (2 * i) 0) + hex_val (get_or ds (2 * i + 1) 0)
unfolding pairs
pairs_at [] i h = absurd (omega arith)
pairs_at (a ∷ []) i h = absurd (omega arith)
pairs_at (a ∷ b ∷ ds) zero h = refl
pairs_at (a ∷ b ∷ ds) (suc i) h =
    let e : 2 * suc i ≡ suc (suc (2 * i)) = omega arith in
    let f : 2 * suc i + 1 ≡ suc (suc (2 * i + 1)) = omega arith in
    rw (f, e) (pairs_at ds i (omega arith))

-- the stretch written one character a turn: a turn, and the end
module _ (xs ds : List ℕ) where
  pub pairs-more : (i a b : ℕ) → 2 * i + 1 < length ds → a ≡ hex_val (get_or ds (2 * i) 0) → b ≡ hex_val (get_or ds (2 * i + 1) 0)
      → set (put xs 0 (part (pairs ds) 0 i)) i (16 * a + b) ≡ put xs 0 (part (pairs ds) 0 (i + 1))
  pairs-more i a b h p q =
      let z : 0 + i ≡ i = omega arith in
      let v : get_or (pairs ds) i 0 ≡ 16 * a + b = rw (p, q) (pairs_at ds i h) in
      rw (z, v) at (copy_more xs 0 (pairs ds) 0 i (omega (arith, length_pairs ds)))

  pub pairs_end : (n : ℕ) → n ≡ min (length ds / 2) (length xs) → put xs 0 (part (pairs ds) 0 n) ≡ put xs 0 (pairs ds)
  pairs_end n e =
      copy_clipped xs 0 (pairs ds) 0 (length (pairs ds)) n (omega (arith, length_pairs ds)) ∙ ap (put xs 0) (part-whole (pairs ds) (length (pairs ds)) refl)

-- ---- decimal digits

grows : (v : ℕ) (ds : List ℕ) → v ≤ value_from v ds
unfolding value_from
grows v [] = omega arith
grows v (d ∷ ds) = omega (arith, grows (v * 10 + (d - 48)) ds)

-- over the largest number every line is of another form
pub time_over : (v : ℕ) (ds : List ℕ) → 4294967295 < v → time_from v ds ≡ other
unfolding time_from
time_over v ds h = rw (lt-leb (value_from v ds) 4294967295 (omega (arith, grows v ds))) (cond_same (every is_decimal ds) other)

time_cons : (v d : ℕ) (ds : List ℕ) → time_from v (d ∷ ds) ≡ cond (is_decimal d) (time_from (v * 10 + (d - 48)) ds) other
unfolding time_from every value_from
time_cons v d ds = cond_and (is_decimal d) (every is_decimal ds) _ other

module _ (s : List ℕ) (i v : ℕ) (h : i < length s) where
  one_more : time_from v (drop i s) ≡ cond (is_decimal (get_or s i 0)) (time_from (v * 10 + (get_or s i 0 - 48)) (drop (i + 1) s)) other
  one_more = rw (add-one, drop-cons s i 0) (time_cons v (get_or s i 0) (drop (suc i) s))

  pub time-more : 48 ≤ get_or s i 0 → get_or s i 0 ≤ 57 → time_from v (drop i s) ≡ time_from (v * 10 + (get_or s i 0 - 48)) (drop (i + 1) s)
  unfolding is_decimal
  time-more a b = one_more ∙ simp (le-leb 48 (get_or s i 0) a, le-leb (get_or s i 0) 57 b)

  pub time-low : get_or s i 0 < 48 → time_from v (drop i s) ≡ other
  unfolding is_decimal
  time-low a = one_more ∙ simp (lt-leb 48 (get_or s i 0) a)

  pub time-high : 48 ≤ get_or s i 0 → 57 < get_or s i 0 → time_from v (drop i s) ≡ other
  unfolding is_decimal
  time-high a b = one_more ∙ simp (le-leb 48 (get_or s i 0) a, lt-leb (get_or s i 0) 57 b)

pub time_end : (s : List ℕ) (i v : ℕ) → length s ≤ i → v ≤ 4294967295 → time_from v (drop i s) ≡ time v
unfolding time_from every value_from
time_end s i v h k = rw (drop_of_length-le s h) (rw (le-leb v 4294967295 k))

pub time-none : (s : List ℕ) → length s ≡ 0 → time_said s ≡ other
unfolding time_said
time-none [] h = refl
time-none (d ∷ s) h = absurd (omega arith)

pub time-some : (s : List ℕ) → (length s ≡ 0 → ⊥) → time_said s ≡ time_from 0 s
unfolding time_said
time-some [] h = absurd (h refl)
time-some (d ∷ s) h = refl

quiet_if : (b : Bool) (m n : Says) → stretch_in m ≡ [] → stretch_in n ≡ [] → stretch_in (cond b m n) ≡ []
quiet_if true m n p q = p
quiet_if false m n p q = q

-- a time has no stretch
pub time-quiet : (ds : List ℕ) → stretch_in (time_said ds) ≡ []
unfolding time_said time_from stretch_in
time-quiet [] = refl
time-quiet (d ∷ ds) = quiet_if (every is_decimal (d ∷ ds)) _ other (quiet_if (leb (value_from 0 (d ∷ ds)) 4294967295) (time (value_from 0 (d ∷ ds))) other refl refl) refl

-- ---- stretches

module _ (ds : List ℕ) where
  pub stretch_odd : length ds % 2 ≡ 1 → stretch_of ds ≡ other
  unfolding stretch_of
  stretch_odd h = simp (ne_eqb (length ds % 2) 0 (λ z. omega arith))

  pub stretch_wrong : every is_hex ds ≡ false → stretch_of ds ≡ other
  unfolding stretch_of
  stretch_wrong e = rw e (cond_same (eqb (length ds % 2) 0) other)

  pub stretch-right : (length ds % 2 ≡ 1 → ⊥) → every is_hex ds ≡ true → stretch_of ds ≡ stretch (pairs ds)
  unfolding stretch_of
  stretch-right h e = rw (eq-eqb (length ds % 2) 0 (omega arith), e)

-- ---- lines

short : (l : List ℕ) → length l < 2 → fields_of l ≡ other
unfolding fields_of
short [] h = refl
short (k ∷ []) h = refl
short (k ∷ t ∷ ds) h = absurd (omega arith)

fields : (l : List ℕ) → 2 ≤ length l → fields_of l ≡ cond (eqb (get_or l 1 0) 9) (field_of (get_or l 0 0) (drop 2 l)) other
unfolding fields_of
fields [] h = absurd (omega arith)
fields (k ∷ []) h = absurd (omega arith)
fields (k ∷ t ∷ ds) h = refl

module _ (l : List ℕ) where
  pub line-long : 2000 < length l → says_of l ≡ other
  unfolding says_of
  line-long h = rw (lt-leb (length l) 2000 h)

  pub line-short : length l < 2 → says_of l ≡ other
  unfolding says_of
  line-short h = rw (short l h) (cond_same (leb (length l) 2000) other)

-- what stands behind the tab, as the code takes it
behind : (l : List ℕ) → drop 2 l ≡ take (length l - 2) (drop 2 l)
behind l = sym (take_all (length l - 2) (drop 2 l) (omega (arith, length-drop 2 l)))

module _ (l : List ℕ) (m : length l ≤ 2000) (n : 2 ≤ length l) where
  line_no_tab : (get_or l 1 0 ≡ 9 → ⊥) → says_of l ≡ other
  unfolding says_of
  line_no_tab t = simp (le-leb (length l) 2000 m, fields l n, ne_eqb (get_or l 1 0) 9 t)

  line_field : get_or l 1 0 ≡ 9 → says_of l ≡ field_of (get_or l 0 0) (drop 2 l)
  unfolding says_of
  line_field t = simp (le-leb (length l) 2000 m, fields l n, eq-eqb (get_or l 1 0) 9 t)

  pub line-stretch : get_or l 1 0 ≡ 9 → get_or l 0 0 ≡ 82 → says_of l ≡ stretch_of (take (length l - 2) (drop 2 l))
  unfolding field_of
  line-stretch t k = line_field t ∙ simp (eq-eqb (get_or l 0 0) 82 k) (ap stretch_of (behind l))

  pub line-time : get_or l 1 0 ≡ 9 → (get_or l 0 0 ≡ 82 → ⊥) → get_or l 0 0 ≡ 84 → says_of l ≡ time_said (take (length l - 2) (drop 2 l))
  unfolding field_of
  line-time t j k = line_field t ∙ simp (ne_eqb (get_or l 0 0) 82 j, eq-eqb (get_or l 0 0) 84 k) (ap time_said (behind l))

  line_unknown : get_or l 1 0 ≡ 9 → (get_or l 0 0 ≡ 82 → ⊥) → (get_or l 0 0 ≡ 84 → ⊥) → says_of l ≡ other
  unfolding field_of
  line_unknown t j k = line_field t ∙ simp (ne_eqb (get_or l 0 0) 82 j, ne_eqb (get_or l 0 0) 84 k)

  pub line-other : (get_or l 1 0 ≡ 9 → get_or l 0 0 ≡ 82 → ⊥) → (get_or l 1 0 ≡ 9 → get_or l 0 0 ≡ 84 → ⊥) → says_of l ≡ other
  line-other j k =
      by_test
      (eqb (get_or l 1 0) 9)
      (λ e. let t : get_or l 1 0 ≡ 9 = eqb-true _ _ e in line_unknown t (j t) (k t))
      (λ e. line_no_tab (eqb-false _ _ e))

-- ---- what is answered, and what stands in the lent memory

module _ (m : Says) where
  pub answer-other : m ≡ other → Line.Other ≡ line_of m
  unfolding line_of
  answer-other e = rw e

  pub answer-time : (v : ℕ) → m ≡ time v → Line.Time v ≡ line_of m
  unfolding line_of
  answer-time v e = rw e

-- of what was read in a field its kind is answered
pub answered : (kind : ℕ → Line) (o : Option ℕ) (r a : Line) → MatchOption o (r ≡ Line.Other) (λ n. r ≡ kind n) → MatchOption o (Line.Other ≡ a) (λ n. kind n ≡ a)
    → r ≡ a
answered kind None r a e h = e ∙ h
answered kind (Some n) r a e h = e ∙ h

-- a line that says m was read: r is answered, and the lent memory, which was xs, is ys
abbrev Read : Says → Line → List ℕ → List ℕ → Type 0
Read m r xs ys = (r ≡ line_of m) × (ys ≡ put xs 0 (stretch_in m))

pub read_as : (m n : Says) (r : Line) (xs ys : List ℕ) → m ≡ n → Read n r xs ys → Read m r xs ys
read_as m n r xs ys e h = rw e h

pub read-quiet : (m n : Says) (r : Line) (xs : List ℕ) → m ≡ n → stretch_in n ≡ [] → r ≡ line_of n → Read m r xs xs
read-quiet m n r xs e q h = rw e (h, rw q (sym (put-none xs 0)))

pub read-other : (m : Says) (xs : List ℕ) → m ≡ other → Read m Line.Other xs xs
unfolding stretch_in
read-other m xs e = read-quiet m other Line.Other xs e refl (answer-other other refl)

pub read-stretch : (m : Says) (s : List ℕ) (n : ℕ) (xs ys : List ℕ) → m ≡ stretch s → n ≡ length s → ys ≡ put xs 0 s → Read m (Line.Stretch n) xs ys
unfolding line_of stretch_in
read-stretch m s n xs ys e k w = rw (e, k) (refl, w)

-- ---- the bound of a stretch

most-if : (b : Bool) (m n : Says) → length (stretch_in m) ≤ 999 → length (stretch_in n) ≤ 999 → length (stretch_in (cond b m n)) ≤ 999
most-if true m n p q = p
most-if false m n p q = q

none-heard : length (stretch_in other) ≤ 999
unfolding stretch_in
none-heard = omega arith

most-stretch : (ds : List ℕ) → length ds ≤ 1998 → length (stretch_in (stretch_of ds)) ≤ 999
unfolding stretch_of stretch_in
most-stretch ds h =
    let n : length (pairs ds) ≤ 999 = omega (arith, length_pairs ds) in
    let z : zero ≤ 999 = omega arith in
    most-if (eqb (length ds % 2) 0) (cond (every is_hex ds) (stretch (pairs ds)) other) other (most-if (every is_hex ds) (stretch (pairs ds)) other n z) z

most_field : (k : ℕ) (ds : List ℕ) → length ds ≤ 1998 → length (stretch_in (field_of k ds)) ≤ 999
unfolding field_of
most_field k ds h =
    let t : length (stretch_in (time_said ds)) ≤ 999 = omega (arith, ap length (time-quiet ds)) in
    most-if (eqb k 82) (stretch_of ds) (cond (eqb k 84) (time_said ds) other) (most-stretch ds h) (most-if (eqb k 84) (time_said ds) other t none-heard)

most_fields : (l : List ℕ) → length l ≤ 2000 → length (stretch_in (fields_of l)) ≤ 999
unfolding fields_of
most_fields [] h = none-heard
most_fields (k ∷ []) h = none-heard
most_fields (k ∷ t ∷ ds) h = most-if (eqb t 9) (field_of k ds) other (most_field k ds (omega arith)) none-heard

pub stretch-most : (l : List ℕ) → length (stretch_in (says_of l)) ≤ 999
unfolding says_of
stretch-most l =
    by_test
    (leb (length l) 2000)
    (λ e. rw e (most_fields l (leb-true _ _ e)))
    (λ e. rw e none-heard)

long_as : (m : Says) (n : ℕ) → line_of m ≡ Line.Stretch n → n ≡ length (stretch_in m)
unfolding line_of stretch_in
long_as (stretch s) n e = cc
long_as (time v) n e = cc
long_as other n e = cc

-- an answer that is a stretch says how long it is, and 999 characters are room for every one
pub stretch-long : (l : List ℕ) (n : ℕ) → line_of (says_of l) ≡ Line.Stretch n → (n ≡ length (stretch_in (says_of l))) × (n ≤ 999)
stretch-long l n e = let q : n ≡ length (stretch_in (says_of l)) = long_as (says_of l) n e in (q, omega (arith, stretch-most l))
