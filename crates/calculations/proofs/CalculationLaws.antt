-- What function 03 comes to, number by number and case by case.
-- Assumes nothing.
use mathlib.Core.Path.{◌≡◌, refl, sym}
use Prim.Native.Nat.{ℕ, ◌+◌, ◌*◌, ◌≤◌, ◌<◌}
use native.Mathlib.Omega.{arith}
use mathlib.Core.List.{List, [], ◌∷◌, append-nil}
use mathlib.Core.Bool.{Bool, true, false}
use mir.Val.{bool_byte}
use borrow.Author.Tests.{le-leb, lt-leb, eq-eqb, ne_eqb}
use lib.ListN.{length, get_or, set, length-append}
use Rattle.chars.specs.Put.{put}
use Rattle.chars.specs.Word.{value}
use Rattle.chars.specs.Gather.{gather, up_from}
use Rattle.chars.proofs.PutLaws.{put_one, put_then}
use Rattle.chars.proofs.WordLaws.{length-value}
use Rattle.chars.proofs.GatherLaws.{gather-more, gather-each, up_next}
use Rattle.model.specs.Limits.{most_data}
use Rattle.model.specs.Config.{has_calculation}
use Rattle.model.specs.Scan.{tells, refuses}
use Rattle.model.specs.Calculations.{fitting, value_of, all_of, pair_of, missing_of, asked_of}
use Rattle.model.specs.declared.Outcome.TheVariants.{NotValid, TooLong}

-- ---- one number

module _ (table values : List ℕ) (n : ℕ) where
  pub value_taken : {v : ℕ} → has_calculation table n ≡ true → v ≡ get_or values n 0 → value_of table values n ≡ value v
  unfolding value_of
  value_taken e h = simp (e, h)

  pub value-left : has_calculation table n ≡ false → value_of table values n ≡ []
  unfolding value_of
  value-left e = simp e

pub pair_of_lem : (values : List ℕ) (n : ℕ) {v : ℕ} → v ≡ get_or values n 0 → pair_of values n ≡ n ∷ value v
unfolding pair_of
pair_of_lem values n h = simp h

-- a number stored, and its value written behind it
pub put-pair : (xs bs : List ℕ) (at n v : ℕ) → bs ≡ put (set xs at n) (at + 1) (value v) → bs ≡ put xs at (n ∷ value v)
put-pair xs bs at n v e = put_then xs (set xs at n) bs at (at + 1) (n ∷ []) (value v) (sym (put_one xs at n)) (omega arith) e

module _ (table : List ℕ) (n : ℕ) where
  pub missing-taken : has_calculation table n ≡ false → missing_of table n ≡ n ∷ []
  unfolding missing_of
  missing-taken e = simp e

  pub missing-left : has_calculation table n ≡ true → missing_of table n ≡ []
  unfolding missing_of
  missing-left e = simp e

-- ---- counting before writing

pub count_none : (table values : List ℕ) → 4 * 0 ≡ length (gather (value_of table values) (up_from 0 0))
unfolding gather up_from
count_none table values = refl

-- one number more, and one more of those that are equipped where it is
pub count_more : (table : List ℕ) (k n : ℕ) (b : Bool) {r : ℕ} → r ≡ bool_byte b → b ≡ has_calculation table k
    → ((values : List ℕ) → 4 * n ≡ length (gather (value_of table values) (up_from 0 k)))
    → (r ≤ 1) × ((values : List ℕ) → 4 * (n + r) ≡ length (gather (value_of table values) (up_from 0 (k + 1))))
count_more table k n true e f c =
    (omega arith, λ vs. let g = c vs in rw (up_next, gather-more, value_taken table vs k (sym f) refl, length-append, length-value) (omega (arith, g)))
count_more table k n false e f c =
    (omega arith, λ vs. let g = c vs in rw (up_next, gather-more, value-left table vs k (sym f), append-nil) (omega (arith, g)))

pub pairs-long : (values ns : List ℕ) → length (gather (pair_of values) ns) ≡ 5 * length ns
unfolding pair_of value
pairs-long values ns = gather-each (pair_of values) 5 (λ i. refl) ns

-- ---- the answers

pub fitting-done : (ys : List ℕ) → length ys ≤ most_data → fitting ys ≡ tells ys
unfolding fitting
fitting-done ys h = simp (le-leb _ _ h)

pub fitting-long : (ys : List ℕ) → most_data < length ys → fitting ys ≡ refuses TooLong
unfolding fitting
fitting-long ys h = simp (lt-leb _ _ h)

module _ (table values : List ℕ) (n : ℕ) (c : 4 * n ≡ length (gather (value_of table values) (up_from 0 128))) where
  pub all-long : 127 < n → all_of table values ≡ refuses TooLong
  unfolding all_of
  all-long h = fitting-long _ (omega arith)

  pub all_done : n ≤ 127 → all_of table values ≡ tells (gather (value_of table values) (up_from 0 128))
  unfolding all_of
  all_done h = fitting-done _ (omega arith)

module _ (table values ns : List ℕ) where
  pub asked-missing : (length (gather (missing_of table) ns) ≡ 0 → ⊥) → asked_of table values ns ≡ record { outcome = NotValid; chars = gather (missing_of table) ns }
  unfolding asked_of
  asked-missing z = simp (ne_eqb _ _ z)

  module _ (z : length (gather (missing_of table) ns) ≡ 0) where
    pub asked-long : 102 < length ns → asked_of table values ns ≡ refuses TooLong
    unfolding asked_of
    asked-long h = simp (eq-eqb _ _ z) (fitting-long (gather (pair_of values) ns) (omega (arith, pairs-long values ns)))

    pub asked-done : length ns ≤ 102 → asked_of table values ns ≡ tells (gather (pair_of values) ns)
    unfolding asked_of
    asked-done h = simp (eq-eqb _ _ z) (fitting-done (gather (pair_of values) ns) (omega (arith, pairs-long values ns)))
