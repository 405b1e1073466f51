-- Bits divided, one and several: linear under xor, and nothing of sixteen bits is lost.
-- Assumes nothing.
use mathlib.Core.Path.{◌≡◌, refl, sym, ap, ap₂, ◌∙◌, subst}
use Prim.Native.Nat.{ℕ, zero, suc, ◌+◌, ◌*◌, ◌/◌, ◌%◌, ◌^◌, ◌≤◌, ◌<◌}
use native.Mathlib.Nat.{mod-lt, mul-one, zero-add, suc-add, zero-div, lt_of_lt_of_le}
use native.Mathlib.Omega.{arith}
use lib.Pow.{split, pow_pos, pow_mono, shl-shr, shr_lt}
use lib.Bits.{bit_xor, xor_zero_r, xor_shr, xor_mod, xor_lt, xor_shifted, shifted_half, shifted_even}
use Rattle.checkword.specs.Check.{poly, bit_step, bit_steps}
use Rattle.checkword.proofs.Xor.{odd, xor_swap, xor_zero}

times : (a b : ℕ) → bit_xor (a % 2) (b % 2) * poly ≡ bit_xor (a % 2 * poly) (b % 2 * poly)
times a b =
    odd (λ x. bit_xor x (b % 2) * poly ≡ bit_xor (x * poly) (b % 2 * poly)) refl
    (odd (λ y. bit_xor 1 y * poly ≡ bit_xor (1 * poly) (y * poly)) refl refl b) a

-- the bit step is linear
pub bit_step_xor : (a b : ℕ) → bit_step (bit_xor a b) ≡ bit_xor (bit_step a) (bit_step b)
unfolding bit_step
bit_step_xor a b =
    ap₂ (λ x y. bit_xor x (y * poly)) (xor_shr a b 1) (xor_mod a b 1)
    ∙ ap (λ x. bit_xor (bit_xor (a / 2) (b / 2)) x) (times a b)
    ∙ xor_swap (a / 2) (b / 2) (a % 2 * poly) (b % 2 * poly)

pub bit_steps_xor : (n a b : ℕ) → bit_steps n (bit_xor a b) ≡ bit_xor (bit_steps n a) (bit_steps n b)
unfolding bit_steps
bit_steps_xor zero a b = refl
bit_steps_xor (suc n) a b = ap (λ x. bit_steps n x) (bit_step_xor a b) ∙ bit_steps_xor n (bit_step a) (bit_step b)

-- what stands above the bits that are divided only goes down
pub bit_step_even : (h k : ℕ) → bit_step (h * 2 ^ suc k) ≡ h * 2 ^ k
unfolding bit_step
bit_step_even h k =
    ap₂ (λ x y. bit_xor x (y * poly)) (shifted_half h k) (shifted_even h k) ∙ xor_zero_r (h * 2 ^ k)

pub bit_steps_shifted : (k h : ℕ) → bit_steps k (h * 2 ^ k) ≡ h
unfolding bit_steps
bit_steps_shifted zero h = mul-one h
bit_steps_shifted (suc k) h = ap (λ x. bit_steps k x) (bit_step_even h k) ∙ bit_steps_shifted k h

pub steps_none : (v : ℕ) → bit_steps 0 v ≡ v
unfolding bit_steps
steps_none v = refl

pub bit_steps_add : (m n v : ℕ) → bit_steps (m + n) v ≡ bit_steps n (bit_steps m v)
unfolding bit_steps
bit_steps_add zero n v = ap (λ x. bit_steps x v) (zero-add n)
bit_steps_add (suc m) n v = ap (λ x. bit_steps x v) (suc-add m n) ∙ bit_steps_add m n (bit_step v)

-- k steps of a number are k steps of its k low bits, and the rest
pub bit_steps_split : (k v : ℕ) → bit_steps k v ≡ bit_xor (v / 2 ^ k) (bit_steps k (v % 2 ^ k))
bit_steps_split k v =
    ap (λ x. bit_steps k x) (sym (split v k) ∙ sym (xor_shifted (v / 2 ^ k) k (v % 2 ^ k) (mod-lt v (pow_pos k))))
    ∙ bit_steps_xor k (v / 2 ^ k * 2 ^ k) (v % 2 ^ k)
    ∙ ap (λ x. bit_xor x (bit_steps k (v % 2 ^ k))) (bit_steps_shifted k (v / 2 ^ k))

-- ---- nothing is lost of a register of sixteen bits

pub bit_step_lt : (v : ℕ) → v < 2 ^ 16 → bit_step v < 2 ^ 16
unfolding bit_step
bit_step_lt v h = xor_lt 16 (v / 2) (v % 2 * poly) (omega arith) (omega arith)

-- k bits divided leave sixteen of 16 + k
pub sixteen : (k v : ℕ) → v < 2 ^ (16 + k) → bit_steps k v < 2 ^ 16
unfolding bit_steps bit_step
sixteen zero v h = h
sixteen (suc k) v h =
    let m : 16 + suc k ≡ 16 + k + 1 = omega arith in
    let p : v % 2 * poly < 2 ^ 16 = omega arith in
    let l : 16 ≤ 16 + k = omega arith in
    sixteen k (bit_step v)
    (xor_lt (16 + k) (v / 2) (v % 2 * poly) (shr_lt (16 + k) 1 (subst (λ x. v < 2 ^ x) m h)) (lt_of_lt_of_le p (pow_mono l)))

pub bit_steps_lt : (n v : ℕ) → v < 2 ^ 16 → bit_steps n v < 2 ^ 16
bit_steps_lt n v h = let l : 16 ≤ 16 + n = omega arith in sixteen n v (lt_of_lt_of_le h (pow_mono l))

pub bit_step-zero : (v : ℕ) → v < 2 ^ 16 → bit_step v ≡ 0 → v ≡ 0
unfolding bit_step
bit_step-zero v h e = let z : v / 2 ≡ v % 2 * poly = xor_zero e in omega arith

pub bit_steps-zero : (n v : ℕ) → v < 2 ^ 16 → bit_steps n v ≡ 0 → v ≡ 0
unfolding bit_steps
bit_steps-zero zero v h e = e
bit_steps-zero (suc n) v h e = bit_step-zero v h (bit_steps-zero n (bit_step v) (bit_step_lt v h) e)

-- nor does any number of steps lose sixteen bits that stand k places up
pub window-zero : (n k w : ℕ) → w < 2 ^ 16 → bit_steps n (w * 2 ^ k) ≡ 0 → w ≡ 0
unfolding bit_steps
window-zero zero k w h e = sym (shl-shr w k) ∙ ap (λ x. x / 2 ^ k) e ∙ zero-div (2 ^ k)
window-zero (suc n) zero w h e = bit_steps-zero (suc n) w h (ap (λ x. bit_steps (suc n) x) (sym (mul-one w)) ∙ e)
window-zero (suc n) (suc k) w h e = window-zero n k w h (ap (λ x. bit_steps n x) (sym (bit_step_even w k)) ∙ e)

pub bit_steps_0 : (n : ℕ) → bit_steps n 0 ≡ 0
unfolding bit_steps bit_step
bit_steps_0 zero = refl
bit_steps_0 (suc n) = bit_steps_0 n
