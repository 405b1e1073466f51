-- Laws of xor that the kit's library lacks: it is associative, and only equal numbers give 0.
-- Assumes nothing.
use mathlib.Core.Path.{◌≡◌, refl, sym, ap, ap₂, ◌∙◌}
use Prim.Native.Nat.{ℕ, zero, suc, ◌+◌, ◌*◌, ◌/◌, ◌%◌, ◌<◌}
use native.Mathlib.Omega.{arith}
use lib.Arith.{bin_ind}
use lib.Bits.{bit_xor, differ, xor_step, xor_comm, xor_self, xor_zero_r, xor_shr, xor_mod}

-- a fact of 0 and of 1 is one of each bit
pub bit : (P : ℕ → Type 0) → P 0 → P 1 → (n : ℕ) → n < 2 → P n
bit P p q zero h = p
bit P p q (suc zero) h = q
bit P p q (suc (suc n)) h = absurd (omega arith)

pub odd : (P : ℕ → Type 0) → P 0 → P 1 → (n : ℕ) → P (n % 2)
odd P p q n = bit P p q (n % 2) (omega arith)

pub xor_odd : (a b : ℕ) → bit_xor a b % 2 ≡ differ (a % 2) (b % 2)
xor_odd a b =
    xor_mod a b 1
    ∙ odd (λ x. bit_xor x (b % 2) ≡ differ x (b % 2)) refl (odd (λ y. bit_xor 1 y ≡ differ 1 y) refl refl b) a

pub xor_assoc : (a b c : ℕ) → bit_xor (bit_xor a b) c ≡ bit_xor a (bit_xor b c)
xor_assoc =
    bin_ind (λ (n : ℕ). (b c : ℕ) → bit_xor (bit_xor n b) c ≡ bit_xor n (bit_xor b c)) (λ b c. refl)
    (λ n ih b c.
    xor_step (bit_xor n b) c
    ∙ ap₂ (λ (x y : ℕ). x * 2 + y)
    (ap (λ x. bit_xor x (c / 2)) (xor_shr n b 1) ∙ ih (b / 2) (c / 2) ∙ ap (λ x. bit_xor (n / 2) x) (sym (xor_shr b c 1)))
    (ap (λ x. differ x (c % 2)) (xor_odd n b)
    ∙ odd (λ x. differ (differ x (b % 2)) (c % 2) ≡ differ x (differ (b % 2) (c % 2))) refl
    (odd (λ y. differ (differ 1 y) (c % 2) ≡ differ 1 (differ y (c % 2))) refl
    (odd (λ z. differ (differ 1 1) z ≡ differ 1 (differ 1 z)) refl refl c) b) n
    ∙ ap (λ x. differ (n % 2) x) (sym (xor_odd b c)))
    ∙ sym (xor_step n (bit_xor b c)))

-- two and two
pub xor_swap : (a b c d : ℕ) → bit_xor (bit_xor a b) (bit_xor c d) ≡ bit_xor (bit_xor a c) (bit_xor b d)
xor_swap a b c d =
    xor_assoc a b (bit_xor c d)
    ∙ ap (λ x. bit_xor a x) (sym (xor_assoc b c d) ∙ ap (λ x. bit_xor x d) (xor_comm b c) ∙ xor_assoc c b d)
    ∙ sym (xor_assoc a c (bit_xor b d))

-- only equal numbers give 0
pub xor_zero : {a b : ℕ} → bit_xor a b ≡ 0 → a ≡ b
xor_zero {a} {b} e =
    sym (xor_zero_r a) ∙ ap (λ x. bit_xor a x) (sym (xor_self b)) ∙ sym (xor_assoc a b b) ∙ ap (λ x. bit_xor x b) e
