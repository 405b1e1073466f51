-- Bits of a number, one of them set anew, and numbers of eight bits in a word. Assumes nothing.
use mathlib.Core.Path.{◌≡◌, refl, sym, ap, ◌∙◌}
use Prim.Native.Nat.{ℕ, zero, suc, ◌+◌, ◌*◌, ◌/◌, ◌%◌, ◌^◌, ◌<◌}
use native.Mathlib.Nat.{div-div-eq-div-mul, pow-suc, mul_comm}
use native.Mathlib.Omega.{arith}
use Rattle.model.specs.Contacts.{bit_in, with_bit}

-- a bit is 0 or 1
pub bit-small : (x i : ℕ) → bit_in x i < 2
unfolding bit_in
bit-small x zero = omega arith
bit-small x (suc i) = bit-small (x / 2) i

-- by a shift
pub bit_shift : (x i : ℕ) → bit_in x i ≡ x / 2 ^ i % 2
unfolding bit_in
bit_shift x zero = omega arith
bit_shift x (suc i) =
    bit_shift (x / 2) i ∙ ap (λ (y : ℕ). y % 2) (div-div-eq-div-mul x 2 (2 ^ i) ∙ ap (λ (y : ℕ). x / y) (mul_comm 2 (2 ^ i) ∙ sym (pow-suc 2 i)))

-- a bit that is set anew
pub with_one : (x i : ℕ) → bit_in x i ≡ 0 → with_bit x i 1 ≡ x + 2 ^ i
unfolding bit_in with_bit
with_one x zero e = omega arith
with_one x (suc i) e = omega (arith, with_one (x / 2) i e, pow-suc 2 i)

pub with_none : (x i : ℕ) → bit_in x i ≡ 1 → with_bit x i 0 + 2 ^ i ≡ x
unfolding bit_in with_bit
with_none x zero e = omega arith
with_none x (suc i) e = omega (arith, with_none (x / 2) i e, pow-suc 2 i)

pub with_own : (x i : ℕ) {b : ℕ} → bit_in x i ≡ b → with_bit x i b ≡ x
unfolding bit_in with_bit
with_own x zero e = omega arith
with_own x (suc i) e = omega (arith, with_own (x / 2) i e)

pub with_less : (x i b n : ℕ) → x < 2 ^ n → i < n → b < 2 → with_bit x i b < 2 ^ n
unfolding with_bit
with_less x i b zero h k l = absurd (omega arith)
with_less x zero b (suc n) h k l = omega (arith, pow-suc 2 n)
with_less x (suc i) b (suc n) h k l =
    let s : x / 2 < 2 ^ n = omega (arith, pow-suc 2 n) in
    omega (arith, with_less (x / 2) i b n s (omega arith) l, pow-suc 2 n)

pub bit-same : (x i b : ℕ) → b < 2 → bit_in (with_bit x i b) i ≡ b
unfolding bit_in with_bit
bit-same x zero b l = omega arith
bit-same x (suc i) b l =
    let e : (2 * with_bit (x / 2) i b + x % 2) / 2 ≡ with_bit (x / 2) i b = omega arith in
    rw e (bit-same (x / 2) i b l)

pub bit-other : (x i j b : ℕ) → b < 2 → (i ≡ j → ⊥) → bit_in (with_bit x i b) j ≡ bit_in x j
unfolding bit_in with_bit
bit-other x zero zero b l n = absurd (n refl)
bit-other x zero (suc j) b l n = let e : (2 * (x / 2) + b) / 2 ≡ x / 2 = omega arith in rw e
bit-other x (suc i) zero b l n = omega arith
bit-other x (suc i) (suc j) b l n =
    let e : (2 * with_bit (x / 2) i b + x % 2) / 2 ≡ with_bit (x / 2) i b = omega arith in
    rw e (bit-other (x / 2) i j b l (λ p. n (ap suc p)))

pub bit-nothing : (i : ℕ) → bit_in 0 i ≡ 0
unfolding bit_in
bit-nothing zero = refl
bit-nothing (suc i) = bit-nothing i

-- the low eight bits of a word stay, and the high eight are 0, where these are taken off
pub bit-low : (w i : ℕ) → i < 8 → bit_in (w % 256) i ≡ bit_in w i
unfolding bit_in
bit-low w zero h = omega arith
bit-low w (suc zero) h = omega arith
bit-low w (suc (suc zero)) h = omega arith
bit-low w (suc (suc (suc zero))) h = omega arith
bit-low w (suc (suc (suc (suc zero)))) h = omega arith
bit-low w (suc (suc (suc (suc (suc zero))))) h = omega arith
bit-low w (suc (suc (suc (suc (suc (suc zero)))))) h = omega arith
bit-low w (suc (suc (suc (suc (suc (suc (suc zero))))))) h = omega arith
bit-low w (suc (suc (suc (suc (suc (suc (suc (suc i)))))))) h = absurd (omega arith)

pub bit_high : (w i : ℕ) → bit_in (w % 256) (8 + i) ≡ 0
unfolding bit_in
bit_high w i =
    let e : w % 256 / 2 / 2 / 2 / 2 / 2 / 2 / 2 / 2 ≡ 0 = omega arith in
    let f : 8 + i ≡ suc (suc (suc (suc (suc (suc (suc (suc i))))))) = omega arith in
    rw f (ap (λ (x : ℕ). bit_in x i) e ∙ bit-nothing i)
