-- Places folded up leave a word that is alike, and empty low places: so eight characters more are a sum of shifts, and eight are worth two.
-- Assumes nothing.
use mathlib.Core.Path.{◌≡◌, refl, sym, ap, ap₂, ◌∙◌, subst}
use Prim.Native.Nat.{ℕ, ◌+◌, ◌-◌, ◌*◌, ◌/◌, ◌%◌, ◌^◌, ◌≤◌, ◌<◌}
use native.Mathlib.Nat.{add-zero, mul_assoc, mod-lt, mul-mod_left, lt_of_lt_of_le}
use native.Mathlib.Omega.{arith}
use lib.Pow.{split, pow_pos, pow-add, pow_mono, mod-mod-pow, shl_exact, shl-shr, shr_lt}
use lib.Bits.{bit_xor, xor_comm, xor_mod, xor_shifted}
use Rattle.checkword.specs.Check.{bit_steps}
use Rattle.checkword.specs.Alike.{Alike, Folded, parity}
use Rattle.checkword.proofs.Steps.{steps_none, bit_steps_xor, bit_steps_add, bit_steps_shifted, sixteen}
use Rattle.checkword.proofs.Alike.{bit_steps_comm, alike_is, alike_then, alike_steps, alike_xor, sum_15, sum_64}
use Rattle.checkword.proofs.Parity.{parity_lt, parity_xor, parity_steps}
use Rattle.checkword.proofs.Binary.{fallen_out}

-- ---- what stands above is divided later

pub shifted : (n k x m : ℕ) → m ≡ k + n → bit_steps m (x * 2 ^ k) ≡ bit_steps n x
shifted n k x m e = ap (λ j. bit_steps j (x * 2 ^ k)) e ∙ bit_steps_add k n (x * 2 ^ k) ∙ ap (bit_steps n) (bit_steps_shifted k x)

lowered : (n k y : ℕ) → y % 2 ^ k ≡ 0 → bit_steps n (y / 2 ^ k) ≡ bit_steps k (bit_steps n y)
lowered n k y e =
    ap (bit_steps n)
    (sym (bit_steps_shifted k (y / 2 ^ k))
    ∙ ap (bit_steps k) (sym (add-zero (y / 2 ^ k * 2 ^ k)) ∙ ap (λ x. y / 2 ^ k * 2 ^ k + x) (sym e) ∙ split y k))
    ∙ bit_steps_comm n k y

-- ---- empty low places, and more of them further up

empty-low : (v k j : ℕ) → v % 2 ^ k ≡ 0 → k ≤ j → v % 2 ^ j % 2 ^ k ≡ 0
empty-low v k j e h =
    let i : j ≡ (j - k) + k = omega arith in
    ap (λ x. v % 2 ^ x % 2 ^ k) i ∙ mod-mod-pow v (j - k) k ∙ e

empty_up : (x k d m : ℕ) → x % 2 ^ k ≡ 0 → m ≤ k + d → x * 2 ^ d % 2 ^ m ≡ 0
empty_up x k d m e h =
    let i : k + d ≡ (k + d - m) + m = omega arith in
    let q = x / 2 ^ k in
    let is : x ≡ q * 2 ^ k = sym (split x k) ∙ ap (λ y. q * 2 ^ k + y) e ∙ add-zero (q * 2 ^ k) in
    ap (λ y. y % 2 ^ m)
    (ap (λ y. y * 2 ^ d) is
    ∙ mul_assoc q (2 ^ k) (2 ^ d)
    ∙ ap (λ y. q * y) (sym (pow-add 2 k d) ∙ ap (λ y. 2 ^ y) i ∙ pow-add 2 (k + d - m) m)
    ∙ sym (mul_assoc q (2 ^ (k + d - m)) (2 ^ m)))
    ∙ mul-mod_left (q * 2 ^ (k + d - m)) (2 ^ m)

-- ---- all places but the highest 15 n go up by 15 n, onto those, and once more by 14 n

module _ (n : ℕ) (l : 0 < n) (m : n ≤ 2) (v : ℕ) where
  -- so many places stay below them
  abbrev j : ℕ
  j = 64 - 15 * n

  high : ℕ
  high = v / 2 ^ j * 2 ^ j

  low : ℕ
  low = v % 2 ^ j

  sum : ℕ
  sum = bit_xor (bit_xor (low * 2 ^ (15 * n)) (low * 2 ^ (14 * n))) high

  sum_alike : Alike (bit_steps 64 sum) (bit_steps 64 v)
  unfolding high low sum
  sum_alike =
      let u = bit_steps j low in
      let same : Alike (bit_steps 64 high) (bit_steps 64 high) = alike_is refl in
      let e : 64 ≡ j + 15 * n = omega arith in
      let fits : j ≤ 16 + j = omega arith in
      alike_then
      (alike_is
      (bit_steps_xor 64 (bit_xor (low * 2 ^ (15 * n)) (low * 2 ^ (14 * n))) high
      ∙ ap (λ x. bit_xor x (bit_steps 64 high))
      (bit_steps_xor 64 (low * 2 ^ (15 * n)) (low * 2 ^ (14 * n))
      ∙ ap₂ bit_xor
      (shifted j (15 * n) low 64 (omega arith) ∙ sym (steps_none u))
      (shifted (j + n) (14 * n) low 64 (omega arith) ∙ bit_steps_add j n low))))
      (alike_then (alike_xor (sum_15 n l m u (sixteen j low (lt_of_lt_of_le (mod-lt v (pow_pos j)) (pow_mono fits)))) same)
      (alike_is
      (ap (λ x. bit_xor x (bit_steps 64 high)) (sym (bit_steps_add j (15 * n) low) ∙ ap (λ k. bit_steps k low) (sym e))
      ∙ sym (bit_steps_xor 64 low high)
      ∙ ap (bit_steps 64) (xor_comm low high ∙ xor_shifted (v / 2 ^ j) j low (mod-lt v (pow_pos j)) ∙ split v j))))

  sum_empty : (k : ℕ) → v % 2 ^ k ≡ 0 → k + 29 * n ≤ 64 → sum % 2 ^ (k + 14 * n) ≡ 0
  unfolding high low sum
  sum_empty k e h =
      let i = k + 14 * n in
      let none : low % 2 ^ k ≡ 0 = empty-low v k j e (omega arith) in
      let a = empty_up low k (15 * n) i none (omega arith) in
      let b = empty_up low k (14 * n) i none (omega arith) in
      let c = empty_up (v / 2 ^ j) 0 j i (omega arith) (omega arith) in
      xor_mod (bit_xor (low * 2 ^ (15 * n)) (low * 2 ^ (14 * n))) high i
      ∙ ap₂ bit_xor (xor_mod (low * 2 ^ (15 * n)) (low * 2 ^ (14 * n)) i ∙ ap₂ bit_xor a b) c

  -- by shifts of a word of 64 places
  pub fold_is : (r : ℕ) → v < 2 ^ 64
      → r
      ≡ bit_xor (bit_xor (v * 2 ^ (15 * n) % 2 ^ 64) (v * 2 ^ (15 * n) % 2 ^ 64 / 2 ^ n))
      (v / 2 ^ j * 2 ^ j % 2 ^ 64)
      → Folded n v r
  unfolding high low sum
  fold_is r h e =
      let d : 15 * n ≡ 14 * n + n = omega arith in
      let top : 64 ≡ 15 * n + j = omega arith in
      let a : v * 2 ^ (15 * n) % 2 ^ 64 ≡ low * 2 ^ (15 * n) = fallen_out v (15 * n) j 64 (omega arith) in
      let b : v * 2 ^ (15 * n) % 2 ^ 64 / 2 ^ n ≡ low * 2 ^ (14 * n) =
      ap (λ x. x / 2 ^ n)
      (a ∙ ap (λ x. low * x) (ap (λ x. 2 ^ x) d ∙ pow-add 2 (14 * n) n) ∙ sym (mul_assoc low (2 ^ (14 * n)) (2 ^ n)))
      ∙ shl-shr (low * 2 ^ (14 * n)) n in
      let c : v / 2 ^ j * 2 ^ j % 2 ^ 64 ≡ high =
      shl_exact (15 * n) j 64 (shr_lt (15 * n) j (subst (λ x. v < 2 ^ x) top h)) (omega arith) in
      let is : r ≡ sum = e ∙ ap₂ bit_xor (ap₂ bit_xor a b) c in
      record {
        alike = alike_then (alike_is (ap (bit_steps 64) is)) sum_alike;
        empty = λ k z f. ap (λ x. x % 2 ^ (k + 14 * n)) is ∙ sum_empty k z f;
      }

-- ---- the turn of eight characters

pub turn-alike : (v y : ℕ) → y < 2 ^ 64 → Folded 2 v y → Alike (bit_steps 64 (bit_xor (y / 2 ^ 4) (y / 2 ^ 8))) (bit_steps 64 (bit_steps 64 v))
turn-alike v y h f =
    let none : y % 2 ^ 28 ≡ 0 = f.empty 0 (omega arith) (omega arith) in
    alike_then
    (alike_is
    (bit_steps_xor 64 (y / 2 ^ 4) (y / 2 ^ 8)
    ∙ ap₂ bit_xor (lowered 64 4 y (omega (arith, none))) (lowered 64 8 y (omega (arith, none)))))
    (alike_then (sum_64 (bit_steps 64 y) (sixteen 64 y (omega arith))) (alike_steps 64 f.alike))

-- ---- the last two characters of eight

-- w is left of v by three folds; r is what two characters divided leave, and e has the ones of a
pub worked_alike : (v x y w a r e : ℕ) → Folded 2 v x → Folded 1 x y → Folded 1 y w → r ≡ bit_steps 16 (w / 2 ^ 48)
    → (Alike e r) × (parity e ≡ parity (bit_xor r (bit_xor a w)))
    → (Alike e (bit_steps 64 v)) × (parity e ≡ parity a)
worked_alike v x y w a r e f g h is even =
    let nx : x % 2 ^ 28 ≡ 0 = f.empty 0 (omega arith) (omega arith) in
    let ny : y % 2 ^ 42 ≡ 0 = g.empty 28 nx (omega arith) in
    let nw : w % 2 ^ 49 ≡ 0 = h.empty 35 (omega (arith, ny)) (omega arith) in
    let all : r ≡ bit_steps 64 w =
    is
    ∙ sym (shifted 16 48 (w / 2 ^ 48) 64 refl)
    ∙ ap (bit_steps 64) (omega (arith, nw)) in
    let same : parity r ≡ parity w = ap parity all ∙ parity_steps 64 w in (
      alike_then even.0 (alike_then (alike_is all) (alike_then h.alike (alike_then g.alike f.alike))),
      omega (arith, even.1, parity_xor r (bit_xor a w), parity_xor a w, same, parity_lt a),
    )
