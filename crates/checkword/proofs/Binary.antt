-- The bits of a number: below a block, what falls out of so many places, and what follows where none of a stretch is set.
-- Assumes nothing.
use mathlib.Core.Path.{◌≡◌, refl, sym, ap, ap₂, ◌∙◌}
use Prim.Native.Nat.{ℕ, zero, suc, ◌+◌, ◌*◌, ◌/◌, ◌%◌, ◌^◌, ◌<◌}
use native.Mathlib.Nat.{add-zero, mul-one, div-one, mul_assoc, mul-mod_left, pow-suc}
use native.Mathlib.Numerals.{one-add}
use native.Mathlib.Omega.{arith}
use lib.Arith.{bin_ind}
use lib.Bits.{block_half, block_odd}
use lib.Pow.{mod-pow-add, shl-shr, shr-shr}

-- bit i + 1 of n is bit i of its half
next : (n i : ℕ) → n / 2 ^ suc i ≡ n / 2 / 2 ^ i
next n i = sym (shr-shr n 1 i ∙ ap (λ x. n / 2 ^ x) (one-add i))

pub low_bit : (k i a r : ℕ) → i < k → (a * 2 ^ k + r) / 2 ^ i % 2 ≡ r / 2 ^ i % 2
low_bit zero i a r h = absurd (omega arith)
low_bit (suc k) zero a r h =
    ap (λ x. x % 2) (div-one (a * 2 ^ suc k + r)) ∙ block_odd a k r ∙ ap (λ x. x % 2) (sym (div-one r))
low_bit (suc k) (suc i) a r h =
    ap (λ x. x % 2) (next (a * 2 ^ suc k + r) i ∙ ap (λ x. x / 2 ^ i) (block_half a k r))
    ∙ low_bit k i a (r / 2) (omega arith)
    ∙ ap (λ x. x % 2) (sym (next r i))

-- what goes up past m places falls out of them
pub fallen_out : (x k n m : ℕ) → m ≡ n + k → x * 2 ^ k % 2 ^ m ≡ x % 2 ^ n * 2 ^ k
fallen_out x k n m e =
    ap (λ j. x * 2 ^ k % 2 ^ j) e
    ∙ mod-pow-add (x * 2 ^ k) n k
    ∙ ap₂ (λ p q. p % 2 ^ n * 2 ^ k + q) (shl-shr x k) (mul-mod_left x (2 ^ k))
    ∙ add-zero (x % 2 ^ n * 2 ^ k)

-- no bit below k is set: a multiple of 2 ^ k
pub multiple : (k n : ℕ) → ((i : ℕ) → i < k → n / 2 ^ i % 2 ≡ 0) → n ≡ n / 2 ^ k * 2 ^ k
multiple zero n h = sym (mul-one (n / 1) ∙ div-one n)
multiple (suc k) n h =
    even (ap (λ x. x % 2) (sym (div-one n)) ∙ h 0 (omega arith))
    ∙ ap (λ x. x * 2) (multiple k (n / 2) (λ i l. ap (λ x. x % 2) (sym (next n i)) ∙ h (suc i) (omega arith)))
    ∙ mul_assoc (n / 2 / 2 ^ k) (2 ^ k) 2
    ∙ ap₂ ◌*◌ (sym (next n k)) (sym (pow-suc 2 k))
  where
    even : n % 2 ≡ 0 → n ≡ n / 2 * 2
    even e = omega arith

-- no bit is set: 0
pub none-set : (n : ℕ) → ((i : ℕ) → n / 2 ^ i % 2 ≡ 0) → n ≡ 0
none-set =
    bin_ind (λ (n : ℕ). ((i : ℕ) → n / 2 ^ i % 2 ≡ 0) → n ≡ 0) (λ h. refl)
    (λ n ih h.
    let a : n / 2 ≡ 0 = ih (λ i. ap (λ x. x % 2) (sym (next n i)) ∙ h (suc i)) in
    let b : n % 2 ≡ 0 = ap (λ x. x % 2) (sym (div-one n)) ∙ h 0 in
    omega arith)
