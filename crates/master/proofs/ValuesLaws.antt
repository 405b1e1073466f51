-- Laws of calculation values told, and of those that are missing: what the loops over the numbers asked come to.
-- Assumes nothing.
use mathlib.Core.Path.{◌≡◌, refl, sym, ap, ◌∙◌}
use Prim.Native.Nat.{ℕ, suc, ◌+◌, ◌*◌, ◌<◌, ◌≤◌}
use native.Mathlib.Numerals.{add-one}
use native.Mathlib.Omega.{arith}
use mathlib.Core.List.{List, [], ◌∷◌, ◌++◌, append-nil}
use mathlib.Core.Bool.{Bool, true, false, cond, not, ◌&&◌, ◌||◌}
use lib.ListN.{length, take, get_or, length-append}
use lib.Seq.{take-suc, take_all}
use lib.Dec.{eqb, leb, ltb}
use borrow.Author.Tests.{le-leb, leb-true, eq-eqb, ne_eqb, eqb-true, eqb-false, ltb-true, ltb-false, lt-ltb, le-ltb}
use mir.Val.{bool_byte}
use Rattle.chars.specs.Put.{part}
use Rattle.chars.specs.Gather.{gather, up_from, every}
use Rattle.chars.proofs.GatherLaws.{gather-more}
use Rattle.model.specs.Believe.{same_chars, stands, entry_at, entry_for, agrees_with, tells_values}
use Rattle.master.proofs.SameLaws.{never, and_parts, and_true, and_assoc}

-- ---- values

module _ (ns ys : List ℕ) where
  pub values-many : 102 < length ns → false ≡ tells_values ns ys
  unfolding tells_values
  values-many h =
      never _
      (λ e.
      let p = and_parts (eqb (length ys) (5 * length ns)) _ e in
      let l : length ys ≡ 5 * length ns = eqb-true (length ys) (5 * length ns) p.0 in
      let q = and_parts (leb (length ys) 511) _ p.1 in
      let m : length ys ≤ 511 = leb-true (length ys) 511 q.0 in
      omega arith)

  pub values_other : (length ys ≡ 5 * length ns → ⊥) → false ≡ tells_values ns ys
  unfolding tells_values
  values_other h = rw (ne_eqb (length ys) (5 * length ns) h)

  pub values_those : length ns ≤ 102 → length ys ≡ 5 * length ns
      → every (λ i. entry_for ns ys i && every (agrees_with ns ys i) (up_from 0 i)) (up_from 0 (length ns)) ≡ tells_values ns ys
  unfolding tells_values
  values_those k l = rw (eq-eqb (length ys) (5 * length ns) l, le-leb (length ys) 511 (omega arith))

  -- two entries
  pub agrees-other : (i j : ℕ) → (get_or ns i 0 ≡ get_or ns j 0 → ⊥) → true ≡ agrees_with ns ys i j
  unfolding agrees_with
  agrees-other i j h = rw (ne_eqb (get_or ns i 0) (get_or ns j 0) h)

  pub agrees-same : (i j : ℕ) → get_or ns i 0 ≡ get_or ns j 0 → (b : Bool) → b ≡ same_chars (part ys (5 * i) 5) (part ys (5 * j) 5) → b ≡ agrees_with ns ys i j
  unfolding agrees_with entry_at
  agrees-same i j h b e = rw (eq-eqb (get_or ns i 0) (get_or ns j 0) h) e

-- ---- missing

-- a list begins with another
unfoldable pub prefix : List ℕ → List ℕ → Bool
prefix [] ys = true
prefix (x ∷ xs) [] = false
prefix (x ∷ xs) (y ∷ ys) = eqb y x && prefix xs ys

suc_lt : (a b : ℕ) (t : Bool) → ltb a b ≡ t → ltb (suc a) (suc b) ≡ t
suc_lt a b true e = let h : a < b = ltb-true a b e in lt-ltb (suc a) (suc b) (omega arith)
suc_lt a b false e = let h : b ≤ a = ltb-false a b e in le-ltb (suc a) (suc b) (omega arith)

suc_eq : (a b : ℕ) (t : Bool) → eqb a b ≡ t → eqb (suc a) (suc b) ≡ t
suc_eq a b true e = eq-eqb (suc a) (suc b) (ap suc (eqb-true a b e))
suc_eq a b false e = ne_eqb (suc a) (suc b) (λ h. eqb-false a b e (omega arith))

prefix_append : (xs : List ℕ) (x : ℕ) (ys : List ℕ) → prefix (xs ++ (x ∷ [])) ys ≡ prefix xs ys && (ltb (length xs) (length ys) && eqb (get_or ys (length xs) 0) x)
unfolding prefix
prefix_append [] x [] = refl
prefix_append [] x (y ∷ ys) = rw (lt-ltb 0 (suc (length ys)) (omega arith)) (and_true (eqb y x))
prefix_append (z ∷ xs) x [] = refl
prefix_append (z ∷ xs) x (y ∷ ys) = rw (suc_lt (length xs) (length ys) _ refl, prefix_append xs x ys, and_assoc)

prefix_whole : (xs ys : List ℕ) → prefix xs ys && eqb (length xs) (length ys) ≡ same_chars ys xs
unfolding prefix same_chars
prefix_whole [] [] = refl
prefix_whole [] (y ∷ ys) = ne_eqb 0 (suc (length ys)) (λ e. omega arith)
prefix_whole (x ∷ xs) [] = refl
prefix_whole (x ∷ xs) (y ∷ ys) = rw (suc_eq (length xs) (length ys) _ refl, and_assoc, prefix_whole xs ys)

-- what a number gives: itself where it stands in ys
abbrev pub own : List ℕ → ℕ → List ℕ
own ys n = cond (stands n ys) (n ∷ []) []

-- the first i numbers were told in order: their own stand in front of ys, and the next at index at
pub record Ordered (ns ys : List ℕ) (t : Bool) (at i : ℕ) : Type 0 where
  pub told : t ≡ prefix (gather (own ys) (take i ns)) ys
  pub place : at ≡ length (gather (own ys) (take i ns))
  pub most : at ≤ i

pub ordered_none : (ns ys : List ℕ) → Ordered ns ys true 0 0
unfolding gather prefix
ordered_none ns ys = record { told = refl; place = refl; most = omega arith }

module _ (ns ys : List ℕ) (i : ℕ) (h : i < length ns) where
  gathered_one : gather (own ys) (take (i + 1) ns) ≡ gather (own ys) (take i ns) ++ own ys (get_or ns i 0)
  gathered_one = rw (add-one, take-suc ns i 0 h, gather-more)

  pub ordered_more : (told : Bool) (at : ℕ) (missing : Bool) → missing ≡ stands (get_or ns i 0) ys → Ordered ns ys told at i
      → Ordered ns ys (told && (not missing || (ltb at (length ys) && eqb (get_or ys at 0) (get_or ns i 0)))) (at + bool_byte missing) (i + 1)
  ordered_more told at true e o =
      let one : own ys (get_or ns i 0) ≡ get_or ns i 0 ∷ [] = rw (← e) in
      record {
        told = rw (gathered_one, one, prefix_append, ← o.place, ← o.told);
        place = rw (gathered_one, one, length-append) (omega (arith, o.place));
        most = omega (arith, o.most);
      }
  ordered_more told at false e o =
      let none : own ys (get_or ns i 0) ≡ [] = rw (← e) in
      record {
        told = rw (gathered_one, none, append-nil) (and_true told ∙ o.told);
        place = rw (gathered_one, none, append-nil) (omega (arith, o.place));
        most = omega (arith, o.most);
      }

pub ordered_whole : (ns ys : List ℕ) (i at : ℕ) (told : Bool) → i ≡ length ns → Ordered ns ys told at i
    → told && eqb at (length ys) ≡ same_chars ys (gather (own ys) ns)
ordered_whole ns ys i at told e o =
    let all : take i ns ≡ ns = take_all i ns (omega arith) in
    rw (o.told, o.place, all) (prefix_whole (gather (own ys) ns) ys)

by_lt : (n : ℕ) (b : Bool) → ltb 102 n ≡ b → ltb 511 (5 * n) ≡ ltb 102 n
by_lt n true e = let h : 102 < n = ltb-true 102 n e in lt-ltb 511 (5 * n) (omega arith) ∙ sym e
by_lt n false e = let h : n ≤ 102 = ltb-false 102 n e in le-ltb 511 (5 * n) (omega arith) ∙ sym e

-- none only where the values would not fit
pub missing-some : (n : ℕ) → ltb 511 (5 * n) ≡ ltb 102 n
missing-some n = by_lt n (ltb 102 n) refl
