-- Numbers: whether one lies between two others, and where equipped numbers end.
-- Assumes nothing.
use Rattle.std.proofs.Common.{◌≡◌, ℕ, zero, suc, ◌<◌, ◌≤◌, true, false, leb, List, [], ◌∷◌, length, arith, ltb-true, le-leb, leb-true}
use borrow.Author.Tests.{lt-leb}
use Rattle.model.proofs.Conditions.{and_left, and_right}
use Rattle.model.specs.Config.{has, within, has_calculation}

module _ (low high n : ℕ) where
  pub within_low : n < low → within low high n ≡ false
  unfolding within
  within_low h = simp (lt-leb _ _ h)

  pub within-high : low ≤ n → high < n → within low high n ≡ false
  unfolding within
  within-high h k = simp (le-leb _ _ h, lt-leb _ _ k)

  pub within_both : low ≤ n → n ≤ high → within low high n ≡ true
  unfolding within
  within_both h k = simp (le-leb _ _ h, le-leb _ _ k)

  pub within-most : within low high n ≡ true → n ≤ high
  unfolding within
  within-most e = leb-true _ _ (and_right (leb low n) (leb n high) e)

-- an equipped number lies in its table
pub has_below : (table : List ℕ) (n : ℕ) → has table n ≡ true → n < length table
unfolding has
has_below [] n e = let z : ◌≡◌ {A = ℕ} 0 1 = cc in absurd (omega arith)
has_below (x ∷ table) zero e = omega arith
has_below (x ∷ table) (suc n) e = omega (arith, has_below table n e)

pub calculation_below : (table : List ℕ) (n : ℕ) → has_calculation table n ≡ true → n < 128
unfolding has_calculation
calculation_below table n e = ltb-true _ _ (and_left _ _ e)
