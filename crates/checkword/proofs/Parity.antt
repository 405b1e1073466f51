-- Whether the ones of a number are odd: kept by bits divided, and what tells alike words apart.
-- Assumes nothing.
use mathlib.Core.Path.{◌≡◌, refl, sym, ap, ap₂, ◌∙◌}
use Prim.Native.Nat.{ℕ, zero, suc, ◌+◌, ◌*◌, ◌/◌, ◌%◌, ◌<◌, min}
use native.Mathlib.Nat.{zero-mul, one-mul, zero-min}
use native.Mathlib.Omega.{arith}
use lib.Arith.{bin_ind}
use lib.Dec.{lit<}
use lib.Count.{ones, ones_step, ones_cat}
use lib.Bits.{bit_xor, bit_and, differ, xor_zero_r, xor_self, xor_shr, and_mod, and_shr}
use Rattle.checkword.specs.Check.{poly, bit_step, bit_steps}
use Rattle.checkword.specs.Alike.{factor, Alike, parity}
use Rattle.checkword.proofs.Xor.{odd, xor_odd, xor_zero}
use Rattle.checkword.proofs.Steps.{bit_step_xor}
use Rattle.checkword.proofs.Alike.{factor_xor}

and_odd : (a b : ℕ) → bit_and a b % 2 ≡ min (a % 2) (b % 2)
and_odd a b =
    and_mod a b 1
    ∙ odd (λ x. bit_and x (b % 2) ≡ min x (b % 2)) (sym (zero-min (b % 2))) (odd (λ y. bit_and 1 y ≡ min 1 y) refl refl b) a

carry : (a b : ℕ) → differ (a % 2) (b % 2) + 2 * min (a % 2) (b % 2) ≡ a % 2 + b % 2
carry a b =
    odd (λ x. differ x (b % 2) + 2 * min x (b % 2) ≡ x + b % 2) (omega arith) (odd (λ y. differ 1 y + 2 * min 1 y ≡ 1 + y) refl refl b) a

-- the ones of both together, and twice those in common
ones_xor : (a b : ℕ) → ones (bit_xor a b) + 2 * ones (bit_and a b) ≡ ones a + ones b
ones_xor =
    bin_ind (λ (n : ℕ). (b : ℕ) → ones (bit_xor n b) + 2 * ones (bit_and n b) ≡ ones n + ones b) none
    (λ n ih b.
    let x : ones (bit_xor n b) ≡ differ (n % 2) (b % 2) + ones (bit_xor (n / 2) (b / 2)) =
    ones_step (bit_xor n b) ∙ ap₂ (λ p q. p + ones q) (xor_odd n b) (xor_shr n b 1) in
    let y : ones (bit_and n b) ≡ min (n % 2) (b % 2) + ones (bit_and (n / 2) (b / 2)) =
    ones_step (bit_and n b) ∙ ap₂ (λ p q. p + ones q) (and_odd n b) (and_shr n b 1) in
    omega (arith, ones_step n, ones_step b, ih (b / 2), carry n b))
  where
    none : (b : ℕ) → ones b + 2 * ones 0 ≡ ones 0 + ones b
    none b = let z : ones 0 ≡ 0 = unfold ones in refl in omega arith

pub parity_xor : (a b : ℕ) → parity (bit_xor a b) ≡ (parity a + parity b) % 2
unfolding parity
parity_xor a b = omega (arith, ones_xor a b)

three : (ones 5 + ones 1 ≡ 3) × (ones 3 + ones 1 ≡ 3)
unfolding ones
three = (refl, refl)

-- an odd number of ones, as the polynomial and the second factor have
odd_ones : (parity poly ≡ 1) × (parity 0xC001 ≡ 1)
unfolding parity
odd_ones = (ap (λ x. x % 2) (ones_cat 13 5 1 (lit< tt) ∙ three.0), ap (λ x. x % 2) (ones_cat 14 3 1 (lit< tt) ∙ three.1))

parity_0 : parity 0 ≡ 0
unfolding parity ones
parity_0 = refl

digit : (v : ℕ) → parity v ≡ (v % 2 + parity (v / 2)) % 2
unfolding parity
digit v = omega (arith, ones_step v)

-- where a 1 falls out, three come in
parity-step : (v : ℕ) → parity (bit_step v) ≡ parity v
unfolding bit_step
parity-step v =
    let low : parity (v % 2 * poly) ≡ v % 2 =
    odd (λ x. parity (x * poly) ≡ x) (ap parity (zero-mul poly) ∙ parity_0) (ap parity (one-mul poly) ∙ odd_ones.0) v in
    omega (arith, parity_xor (v / 2) (v % 2 * poly), digit v)

pub parity_steps : (n v : ℕ) → parity (bit_steps n v) ≡ parity v
unfolding bit_steps
parity_steps zero v = refl
parity_steps (suc n) v = parity_steps n (bit_step v) ∙ parity-step v

-- ---- alike with the same parity is the same

-- the second factor stays as it is
second_same : bit_step 0xC001 ≡ 0xC001
unfolding bit_step
second_same = refl

second_none : factor 0xC001 ≡ 0
unfolding factor bit_step
second_none = refl

even_same : (d : ℕ) → bit_step d ≡ d → d % 2 ≡ 0 → d ≡ 0
unfolding bit_step
even_same d e z =
    let h : d / 2 ≡ d = sym (xor_zero_r (d / 2)) ∙ ap (λ x. bit_xor (d / 2) (x * poly)) (sym z) ∙ e in
    omega arith

same_even : (d : ℕ) → bit_step d ≡ d → parity d ≡ 0 → d ≡ 0
same_even d e p = go (d % 2) refl (omega arith)
  where
    go : (x : ℕ) → d % 2 ≡ x → x < 2 → d ≡ 0
    go zero z h = even_same d e z
    go (suc zero) z h =
        let s : d ≡ 0xC001 =
        xor_zero
        (even_same (bit_xor d 0xC001) (bit_step_xor d 0xC001 ∙ ap₂ bit_xor e second_same)
        (xor_odd d 0xC001 ∙ ap (λ x. differ x 1) z)) in
        absurd (omega (arith, ap parity s, odd_ones.1))
    go (suc (suc x)) z h = absurd (omega arith)

pub alike_same : {a b : ℕ} → Alike a b → parity a ≡ parity b → a ≡ b
unfolding factor
alike_same {a} {b} h p =
    let none : factor (bit_xor a b) ≡ 0 = factor_xor a b ∙ ap (λ x. bit_xor x (factor b)) h.same ∙ xor_self (factor b) in
    let q : parity (bit_xor a b) ≡ 0 = parity_xor a b ∙ ap (λ x. (x + parity b) % 2) p ∙ omega arith in
    xor_zero (same_even (bit_xor a b) (sym (xor_zero none)) q)

-- ---- the second factor makes the ones odd or even

pub parity_lt : (v : ℕ) → parity v < 2
unfolding parity
parity_lt v = omega arith

pub odd_changed : (r d : ℕ) → parity d ≡ 1 → (Alike (bit_xor r 0xC001) r) × (parity (bit_xor r 0xC001) ≡ parity (bit_xor r d))
odd_changed r d h = (
  record { same = factor_xor r 0xC001 ∙ ap (λ x. bit_xor (factor r) x) second_none ∙ xor_zero_r (factor r) },
  parity_xor r 0xC001 ∙ ap (λ x. (parity r + x) % 2) (odd_ones.1 ∙ sym h) ∙ sym (parity_xor r d),
)

pub even_kept : (r d : ℕ) → (parity d ≡ 1 → ⊥) → (Alike r r) × (parity r ≡ parity (bit_xor r d))
even_kept r d h = (record { same = refl }, omega (arith, h, parity_xor r d, parity_lt d, parity_lt r))
