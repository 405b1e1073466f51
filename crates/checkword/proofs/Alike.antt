-- Words that are alike: kept by bits divided and by xor; and places up that are the sum of two others.
-- Assumes nothing.
use mathlib.Core.Path.{◌≡◌, refl, sym, ap, ap₂, ◌∙◌, subst}
use Prim.Native.Nat.{ℕ, zero, suc, ◌+◌, ◌*◌, ◌/◌, ◌%◌, ◌^◌, ◌≤◌, ◌<◌}
use native.Mathlib.Nat.{add_comm, mod-lt, zero-mul, one-mul}
use native.Mathlib.Numerals.{one-add}
use native.Mathlib.Omega.{arith}
use lib.Pow.{split, pow_pos, shr_lt}
use lib.Bits.{bit_xor, xor_shifted}
use Rattle.checkword.specs.Check.{bit_step, bit_steps}
use Rattle.checkword.specs.Alike.{factor, Alike}
use Rattle.checkword.proofs.Xor.{bit, xor_swap, xor_zero}
use Rattle.checkword.proofs.Steps.{bit_step_xor, bit_steps_xor, bit_steps_add, bit_steps_0}

-- ---- the factor is linear, and no matter when it comes

pub bit_steps_comm : (m n v : ℕ) → bit_steps m (bit_steps n v) ≡ bit_steps n (bit_steps m v)
bit_steps_comm m n v = sym (bit_steps_add n m v) ∙ ap (λ k. bit_steps k v) (add_comm n m) ∙ bit_steps_add m n v

pub factor_xor : (a b : ℕ) → factor (bit_xor a b) ≡ bit_xor (factor a) (factor b)
unfolding factor
factor_xor a b = ap (λ x. bit_xor (bit_xor a b) x) (bit_step_xor a b) ∙ xor_swap a b (bit_step a) (bit_step b)

next : (n v : ℕ) → bit_step (bit_steps n v) ≡ bit_steps n (bit_step v)
unfolding bit_steps
next n v = bit_steps_comm 1 n v

factor_steps : (n v : ℕ) → factor (bit_steps n v) ≡ bit_steps n (factor v)
unfolding factor
factor_steps n v = ap (λ x. bit_xor (bit_steps n v) x) (next n v) ∙ sym (bit_steps_xor n v (bit_step v))

-- ---- alike

pub alike_is : {a b : ℕ} → a ≡ b → Alike a b
alike_is e = record { same = ap factor e }

pub alike_then : {a b c : ℕ} → Alike a b → Alike b c → Alike a c
alike_then p q = record { same = p.same ∙ q.same }

pub alike_steps : (n : ℕ) {a b : ℕ} → Alike a b → Alike (bit_steps n a) (bit_steps n b)
alike_steps n {a} {b} p = record { same = factor_steps n a ∙ ap (bit_steps n) p.same ∙ sym (factor_steps n b) }

pub alike_xor : {a b c d : ℕ} → Alike a b → Alike c d → Alike (bit_xor a c) (bit_xor b d)
alike_xor {a} {b} {c} {d} p q = record { same = factor_xor a c ∙ ap₂ bit_xor p.same q.same ∙ sym (factor_xor b d) }

-- ---- sixteen numbers tell a linear function of sixteen bits

-- the sum of what f makes of the numbers of one bit
abbrev total : (ℕ → ℕ) → ℕ → ℕ
total f zero = 0
total f (suc k) = total f k + f (2 ^ k)

abbrev Linear : (ℕ → ℕ) → Type 0
Linear f = (a b : ℕ) → f (bit_xor a b) ≡ bit_xor (f a) (f b)

both : (f g : ℕ → ℕ) → Linear f → Linear g → Linear (λ u. bit_xor (f u) (g u))
both f g p q a b = ap₂ bit_xor (p a b) (q a b) ∙ xor_swap (f a) (f b) (g a) (g b)

null : (f : ℕ → ℕ) → Linear f → f 0 ≡ 0 → (k n : ℕ) → n < 2 ^ k → total f k ≡ 0 → f n ≡ 0
null f lin z zero n h e = let n0 : n ≡ 0 = omega arith in ap f n0 ∙ z
null f lin z (suc k) n h e =
    let top : n / 2 ^ k < 2 = shr_lt 1 k (subst (λ x. n < 2 ^ x) (sym (one-add k)) h) in
    let one : f (2 ^ k) ≡ 0 = omega arith in
    ap f (sym (split n k) ∙ sym (xor_shifted (n / 2 ^ k) k (n % 2 ^ k) (mod-lt n (pow_pos k))))
    ∙ lin (n / 2 ^ k * 2 ^ k) (n % 2 ^ k)
    ∙ ap₂ bit_xor
    (bit (λ x. f (x * 2 ^ k) ≡ 0) (ap f (zero-mul (2 ^ k)) ∙ z) (ap f (one-mul (2 ^ k)) ∙ one) (n / 2 ^ k) top)
    (null f lin z k (n % 2 ^ k) (mod-lt n (pow_pos k)) (omega arith))

-- bits divided a, b and n times, together
abbrev three : ℕ → ℕ → ℕ → ℕ → ℕ
three a b n u = bit_xor (bit_xor (bit_steps a u) (bit_steps b u)) (bit_steps n u)

three_xor : (a b n : ℕ) → Linear (three a b n)
three_xor a b n =
    both (λ u. bit_xor (bit_steps a u) (bit_steps b u)) (bit_steps n) (both (bit_steps a) (bit_steps b) (bit_steps_xor a) (bit_steps_xor b)) (bit_steps_xor n)

three_0 : (a b n : ℕ) → three a b n 0 ≡ 0
three_0 a b n = ap₂ bit_xor (ap₂ bit_xor (bit_steps_0 a) (bit_steps_0 b)) (bit_steps_0 n)

-- ---- so many places up are the sum of two others, by the second factor

abbrev lost : ℕ → ℕ → ℕ → ℕ → ℕ
lost n a b u = factor (three a b n u)

lost_xor : (n a b : ℕ) → Linear (lost n a b)
lost_xor n a b x y = ap factor (three_xor a b n x y) ∙ factor_xor (three a b n x) (three a b n y)

factor_0 : factor 0 ≡ 0
unfolding factor bit_step
factor_0 = refl

lost_0 : (n a b : ℕ) → lost n a b 0 ≡ 0
lost_0 n a b = ap factor (three_0 a b n) ∙ factor_0

-- n places up are the sum of a and b
abbrev Sum : ℕ → ℕ → ℕ → Type 0
Sum n a b = (u : ℕ) → u < 2 ^ 16 → Alike (bit_xor (bit_steps a u) (bit_steps b u)) (bit_steps n u)

sum_is : (n a b : ℕ) → total (lost n a b) 16 ≡ 0 → Sum n a b
sum_is n a b e u h =
    record {
      same = xor_zero
          (sym (factor_xor (bit_xor (bit_steps a u) (bit_steps b u)) (bit_steps n u)) ∙ null (lost n a b) (lost_xor n a b) (lost_0 n a b) 16 u h e);
    }

-- x^15 = 1 + x and its square; and the fourth power of x^16 = x + x^2
computed : (total (lost 15 0 1) 16 ≡ 0) × (total (lost 30 0 2) 16 ≡ 0) × (total (lost 64 4 8) 16 ≡ 0)
unfolding factor bit_steps bit_step
computed = (refl, refl, refl)

pub sum_15 : (n : ℕ) → 0 < n → n ≤ 2 → Sum (15 * n) 0 n
sum_15 zero l h = absurd (omega arith)
sum_15 (suc zero) l h = sum_is 15 0 1 computed.0
sum_15 (suc (suc zero)) l h = sum_is 30 0 2 computed.1
sum_15 (suc (suc (suc n))) l h = absurd (omega arith)

pub sum_64 : Sum 64 4 8
sum_64 = sum_is 64 4 8 computed.2

-- ---- a word comes back from three others, by the whole polynomial: its fourth power is x^64 + x^60 + x^8 + 1

back_computed : total (λ u. bit_xor (three 8 60 64 u) u) 16 ≡ 0
unfolding bit_steps bit_step
back_computed = refl

pub back : (u : ℕ) → u < 2 ^ 16 → three 8 60 64 u ≡ u
back u h =
    xor_zero
    (null (λ v. bit_xor (three 8 60 64 v) v) (both (three 8 60 64) (λ v. v) (three_xor 8 60 64) (λ a b. refl)) (ap (λ x. bit_xor x 0) (three_0 8 60 64)) 16 u h back_computed)
