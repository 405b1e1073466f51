-- A burst on the line is caught: it changes at most sixteen neighbouring bits of the list as one number.
-- Assumes nothing.
use mathlib.Core.Path.{◌≡◌, sym, ap, ◌∙◌}
use mathlib.Core.List.{List}
use Prim.Native.Nat.{ℕ, ◌+◌, ◌*◌, ◌/◌, ◌%◌, ◌^◌, ◌<◌}
use native.Mathlib.Nat.{zero-mul}
use native.Mathlib.Omega.{arith}
use lib.ListN.{length, get_or, set, length-set}
use lib.Seq.{get_or-set_same, get_or-set_other}
use lib.Bits.{bit_xor, xor_self, xor_shr, xor_mod}
use lib.Pow.{shr-shr}
use Rattle.chars.specs.Word.{Characters}
use Rattle.checkword.specs.Check.{check_from}
use Rattle.checkword.specs.Line.{bit_at, line, Burst}
use Rattle.checkword.proofs.Xor.{xor_zero}
use Rattle.checkword.proofs.Binary.{multiple, none-set}
use Rattle.checkword.proofs.Whole.{caught}
use Rattle.checkword.proofs.Line.{line-bit, line_inj}

module _ {s t : List ℕ} {k : ℕ} (hs : Characters s) (ht : Characters t) (b : Burst s t k) where
  same_bit : (i : ℕ) → bit_at s i ≡ bit_at t i → bit_xor (line s) (line t) / 2 ^ i % 2 ≡ 0
  same_bit i e =
      ap (λ x. x % 2) (xor_shr (line s) (line t) i)
      ∙ xor_mod (line s / 2 ^ i) (line t / 2 ^ i) 1
      ∙ ap (λ x. bit_xor x (line t / 2 ^ i % 2)) (sym (line-bit s hs i) ∙ e ∙ line-bit t ht i)
      ∙ xor_self (line t / 2 ^ i % 2)

  change : ℕ
  change = bit_xor (line s) (line t) / 2 ^ k

  change-low : bit_xor (line s) (line t) ≡ change * 2 ^ k
  unfolding change
  change-low = multiple k (bit_xor (line s) (line t)) (λ i l. same_bit i (b.before i l))

  change_lt : change < 2 ^ 16
  unfolding change
  change_lt =
      let z : change / 2 ^ 16 ≡ 0 =
      none-set (change / 2 ^ 16)
      (λ i.
      ap (λ x. x % 2) (shr-shr change 16 i ∙ shr-shr (bit_xor (line s) (line t)) k (16 + i))
      ∙ same_bit (k + (16 + i)) (b.after (k + (16 + i)) (omega arith))) in
      omega arith

  -- the check words differ, from any register
  pub burst : (v : ℕ) → check_from v s ≡ check_from v t → ⊥
  burst v e =
      b.other
      (line_inj s t hs ht b.long
      (xor_zero (change-low ∙ ap (λ x. x * 2 ^ k) (caught v s t k change b.long change_lt change-low e) ∙ zero-mul (2 ^ k))))

  -- a frame that leaves 0 leaves no 0 after a burst
  pub frame : (v : ℕ) → check_from v s ≡ 0 → check_from v t ≡ 0 → ⊥
  frame v p q = burst v (p ∙ sym q)

-- one changed character is a burst
pub one_character : (s : List ℕ) (j b : ℕ) → j < length s → (get_or s j 0 ≡ b → ⊥) → Burst s (set s j b) (8 * j)
unfolding bit_at
one_character s j b h ne =
    record {
      long = sym (length-set s j b);
      other = λ e. ne (ap (λ l. get_or l j 0) e ∙ get_or-set_same s j b 0 h);
      before = λ i l. ap (λ x. x / 2 ^ (i % 8) % 2) (sym (get_or-set_other s j (i / 8) b 0 (omega arith)));
      after = λ i l. ap (λ x. x / 2 ^ (i % 8) % 2) (sym (get_or-set_other s j (i / 8) b 0 (omega arith)));
    }
