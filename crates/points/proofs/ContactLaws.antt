-- A bit of a word, set or cleared by a mask. Assumes nothing.
use Rattle.std.proofs.Common.{◌≡◌, ◌≢◌, ℕ, zero, suc, Bool, true, false, cond, eqb, refl, ◌*◌, ◌%◌, ◌^◌, ◌<◌, sym, ◌∙◌, arith, bit_and, bit_or}
use mathlib.Core.Bool.{beq}
use Rattle.std.specs.Int.{w16, bit_at, bit_not}
use Rattle.std.proofs.lemmas.Nat.{and_le_l}
use Rattle.std.proofs.lemmas.Nat.Bits.{bit_at_set_same, bit_at_set_other, bit_at_clear_same, bit_at_clear_other, same_from_bits, same_from_bits_below}
use Rattle.model.specs.Contacts.{bit_in, with_bit}
use Rattle.model.proofs.BitLaws.{bit-small, bit_shift, bit-same, bit-other, with_less}
use Rattle.model.proofs.Conditions.{by_eqb}

-- ---- bits

abbrev pub weight : ℕ → ℕ
weight i = 1 * 2 ^ i % 65536

-- a bit of the word with another one there, by a shift
at_same : (x i b : ℕ) → b < 2 → bit_at (with_bit x i b) i ≡ b
at_same x i b l = sym (bit_shift (with_bit x i b) i) ∙ bit-same x i b l

at_other : (x i b j : ℕ) → b < 2 → j ≢ i → bit_at (with_bit x i b) j ≡ bit_at x j
at_other x i b j l n = sym (bit_shift (with_bit x i b) j) ∙ bit-other x i j b l (λ p. n (sym p)) ∙ bit_shift x j

pub bit_set : (x i : ℕ) → x < 65536 → i < 16 → bit_or x (weight i) ≡ with_bit x i 1
bit_set x i h k =
    same_from_bits _ _ (λ j. by_eqb j i
    (λ e. rw e (bit_at_set_same w16 x i k ∙ sym (at_same x i 1 (omega arith))))
    (λ n. bit_at_set_other w16 x i k j n ∙ sym (at_other x i 1 j (omega arith) n)))

pub bit_cleared : (x i : ℕ) → x < 65536 → i < 16 → bit_and x (bit_not w16 (weight i)) ≡ with_bit x i 0
bit_cleared x i h k =
    let l : bit_and x (bit_not w16 (weight i)) < 65536 = omega (arith, and_le_l x (bit_not w16 (weight i))) in
    same_from_bits_below 16 _ _ l (with_less x i 0 16 h k (omega arith)) (λ j below. by_eqb j i
    (λ e. rw e (bit_at_clear_same w16 x i k ∙ sym (at_same x i 0 (omega arith))))
    (λ n. bit_at_clear_other w16 x i k j below n ∙ sym (at_other x i 0 j (omega arith) n)))

pub changed_less : (b i : ℕ) → b < 256 → i < 8 → with_bit b i 1 < 256
changed_less b i k h = with_less b i 1 8 k h (omega arith)

-- a bit is the state asked for: as numbers, and as tests
same_bit : (b : ℕ) (s : Bool) → b < 2 → eqb b (cond s 1 0) ≡ beq (eqb b 1) s
same_bit zero true h = refl
same_bit zero false h = refl
same_bit (suc zero) true h = refl
same_bit (suc zero) false h = refl
same_bit (suc (suc b)) s h = absurd (omega arith)

pub same_state : (w i : ℕ) (s : Bool) → eqb (bit_in w i) (cond s 1 0) ≡ beq (eqb (bit_in w i) 1) s
same_state w i s = same_bit _ s (bit-small w i)
