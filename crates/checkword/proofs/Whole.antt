-- The check word of a whole list is one division of the list as one number: parts in turn, the residue 0, and the difference of two lists.
-- Assumes nothing.
use mathlib.Core.Path.{◌≡◌, refl, sym, ap, ap₂, ◌∙◌}
use mathlib.Core.List.{List, [], ◌∷◌, ◌++◌}
use Prim.Native.Nat.{ℕ, ◌+◌, ◌*◌, ◌/◌, ◌%◌, ◌^◌, ◌≤◌, ◌<◌}
use native.Mathlib.Nat.{zero-add}
use native.Mathlib.Omega.{arith}
use lib.ListN.{length}
use lib.Bits.{bit_xor, xor_comm, xor_self, xor_zero_r, xor_shifted}
use lib.Pow.{split}
use Rattle.chars.specs.Put.{part}
use Rattle.chars.specs.Word.{word}
use Rattle.chars.proofs.PutLaws.{length_part, part_add}
use Rattle.checkword.specs.Check.{bit_steps, char_step, check_from}
use Rattle.checkword.specs.Line.{line}
use Rattle.checkword.proofs.Xor.{xor_assoc, xor_swap}
use Rattle.checkword.proofs.Steps.{bit_steps_xor, bit_steps_add, bit_steps_shifted, bit_steps_0, window-zero}

-- two parts in turn, the second from the check of the first, are the two joined
pub in_turn : (v : ℕ) (a b : List ℕ) → check_from (check_from v a) b ≡ check_from v (a ++ b)
unfolding check_from
in_turn v [] b = refl
in_turn v (c ∷ a) b = in_turn (char_step v c) a b

pub whole : (v : ℕ) (s : List ℕ) → check_from v s ≡ bit_steps (8 * length s) (bit_xor v (line s))
unfolding check_from char_step line
whole v [] = sym (unfold bit_steps in xor_zero_r v)
whole v (c ∷ s) =
    whole (char_step v c) s
    ∙ ap (λ x. bit_steps (8 * length s) x)
    (ap (λ x. bit_xor (bit_steps 8 (bit_xor v c)) x) (sym (bit_steps_shifted 8 (line s)))
    ∙ sym (bit_steps_xor 8 (bit_xor v c) (line s * 2 ^ 8))
    ∙ ap (λ x. bit_steps 8 x) (xor_assoc v c (line s * 2 ^ 8)))
    ∙ sym (bit_steps_add 8 (8 * length s) (bit_xor v (bit_xor c (line s * 2 ^ 8))))
    ∙ ap (λ x. bit_steps x (bit_xor v (bit_xor c (line s * 2 ^ 8)))) (omega arith)

-- n characters more, from the check word of the i before them
pub more : (v : ℕ) (s : List ℕ) (i n : ℕ) → i + n ≤ length s
    → check_from v (part s 0 (i + n)) ≡ bit_steps (8 * n) (bit_xor (check_from v (part s 0 i)) (line (part s i n)))
more v s i n h =
    ap (check_from v) (part_add s 0 i n ∙ ap (λ k. part s 0 i ++ part s k n) (zero-add i))
    ∙ sym (in_turn v (part s 0 i) (part s i n))
    ∙ whole (check_from v (part s 0 i)) (part s i n)
    ∙ ap (λ k. bit_steps (8 * k) (bit_xor (check_from v (part s 0 i)) (line (part s i n)))) (length_part s i n h)

-- ---- a list and its check characters leave 0

line_word : (v : ℕ) → line (word v) ≡ v
unfolding line word
line_word v =
    ap (λ x. bit_xor (v % 256) (x * 2 ^ 8)) (xor_zero_r (v / 256))
    ∙ xor_comm (v % 256) (v / 256 * 2 ^ 8)
    ∙ xor_shifted (v / 256) 8 (v % 256) (omega arith)
    ∙ split v 8

pub residue : (v : ℕ) (s : List ℕ) → check_from v (s ++ word (check_from v s)) ≡ 0
residue v s =
    sym (in_turn v s (word (check_from v s)))
    ∙ whole (check_from v s) (word (check_from v s))
    ∙ ap (λ x. bit_steps (8 * length (word (check_from v s))) x)
    (ap (λ x. bit_xor (check_from v s) x) (line_word (check_from v s)) ∙ xor_self (check_from v s))
    ∙ bit_steps_0 (8 * length (word (check_from v s)))

-- ---- two lists as numbers

pub difference : (v : ℕ) (s t : List ℕ) → length s ≡ length t
    → bit_xor (check_from v s) (check_from v t) ≡ bit_steps (8 * length s) (bit_xor (line s) (line t))
difference v s t e =
    ap₂ bit_xor (whole v s) (whole v t ∙ ap (λ n. bit_steps (8 * n) (bit_xor v (line t))) (sym e))
    ∙ sym (bit_steps_xor (8 * length s) (bit_xor v (line s)) (bit_xor v (line t)))
    ∙ ap (λ x. bit_steps (8 * length s) x) (xor_swap v (line s) v (line t) ∙ ap (λ x. bit_xor x (bit_xor (line s) (line t))) (xor_self v))

pub caught : (v : ℕ) (s t : List ℕ) (k w : ℕ) → length s ≡ length t → w < 2 ^ 16 → bit_xor (line s) (line t) ≡ w * 2 ^ k
    → check_from v s ≡ check_from v t → w ≡ 0
caught v s t k w e h d c =
    window-zero (8 * length s) k w h
    (ap (λ x. bit_steps (8 * length s) x) (sym d) ∙ sym (difference v s t e)
    ∙ ap (λ x. bit_xor x (check_from v t)) c ∙ xor_self (check_from v t))
