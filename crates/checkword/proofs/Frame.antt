-- Check words of frames: their bound, what a frame with its check characters leaves, and that no burst in it goes unseen.
-- Assumes nothing.
use mathlib.Core.Path.{◌≡◌, sym, ap, ap₂, ◌∙◌}
use mathlib.Core.List.{List, [], ◌∷◌, ◌++◌}
use Prim.Native.Nat.{ℕ, suc, ◌+◌, ◌-◌, ◌*◌, ◌/◌, ◌%◌, ◌≤◌, ◌<◌}
use native.Mathlib.Numerals.{add-one}
use native.Mathlib.Omega.{arith}
use lib.ListN.{length, take, drop, get_or, drop_of_length-le, take-append-drop}
use lib.Seq.{drop-cons}
use lib.Bits.{bit_xor, xor_lt}
use Rattle.chars.specs.Word.{Characters, word, word_at}
use Rattle.chars.proofs.WordLaws.{characters-word, characters_append}
use Rattle.checkword.specs.Check.{char_step, check_from, check_of}
use Rattle.checkword.specs.Line.{Burst}
use Rattle.checkword.proofs.Steps.{bit_steps_lt}
use Rattle.checkword.proofs.Whole.{in_turn, residue}
use Rattle.checkword.proofs.Bursts.{frame}

-- ---- a check word is a word

pub check_from_lt : (v : ℕ) (s : List ℕ) → v < 65536 → Characters s → check_from v s < 65536
unfolding check_from char_step
check_from_lt v [] h hs = h
check_from_lt v (c ∷ s) h hs =
    check_from_lt (char_step v c) s (bit_steps_lt 8 (bit_xor v c) (xor_lt 16 v c h (omega (arith, hs 0)))) (λ i. hs (suc i))

pub check_of_lt : (s : List ℕ) → Characters s → check_of s < 65536
check_of_lt s hs = check_from_lt 0 s (omega arith) hs

-- ---- a stretch whose last two characters are the check of those before

-- the two characters from n on, and none after them
last_word : (n : ℕ) (s : List ℕ) → Characters s → length s ≡ n + 2 → drop n s ≡ word (word_at s n)
unfolding word word_at
last_word n s hs e =
    let l : n < length s = omega arith in
    let m : suc n < length s = omega arith in
    let z : length s ≤ suc (suc n) = omega arith in
    let a : get_or s n 0 ≡ (get_or s n 0 + 256 * get_or s (n + 1) 0) % 256 = omega (arith, hs n) in
    let b : get_or s (suc n) 0 ≡ (get_or s n 0 + 256 * get_or s (n + 1) 0) / 256 = omega (arith, hs n, ap (λ i. get_or s i 0) (add-one n)) in
    drop-cons s n 0 l ∙ ap₂ ◌∷◌ a (drop-cons s (suc n) 0 m ∙ ap₂ ◌∷◌ b (drop_of_length-le s z))

pub check_of-stretch : (s : List ℕ) → Characters s → 2 ≤ length s → word_at s (length s - 2) ≡ check_of (take (length s - 2) s)
    → check_of s ≡ 0
check_of-stretch s hs h e =
    let n = length s - 2 in
    ap (λ x. check_of x)
    (sym (take-append-drop n s) ∙ ap (λ x. take n s ++ x) (last_word n s hs (omega arith) ∙ ap word e))
    ∙ residue 0 (take n s)

-- ---- a burst in a frame, its check characters included

-- a list is sent with its check characters behind it, from any start; what a burst makes of the frame does not leave 0
pub sent : (v : ℕ) (s t : List ℕ) (k : ℕ) → v < 65536 → Characters s → Characters t → Burst (s ++ word (check_from v s)) t k → check_from v t ≡ 0 → ⊥
sent v s t k h hs ht b =
    frame (characters_append s (word (check_from v s)) hs (characters-word (check_from v s) (check_from_lt v s h hs))) ht b v (residue v s)

-- two parts that leave 0 leave 0 joined, so that what a burst makes of them joined does not (Request 5.5)
pub joined : (n : ℕ) (s : List ℕ) → check_of (take n s) ≡ 0 → check_of (drop n s) ≡ 0 → check_of s ≡ 0
joined n s p q =
    ap (λ x. check_of x) (sym (take-append-drop n s)) ∙ sym (in_turn 0 (take n s) (drop n s)) ∙ ap (λ v. check_from v (drop n s)) p ∙ q

-- where the last two characters of s are the check of those before, those of t are not
pub stretch : (s t : List ℕ) (k : ℕ) → Characters s → Characters t → Burst s t k → 2 ≤ length s
    → word_at s (length s - 2) ≡ check_of (take (length s - 2) s)
    → word_at t (length t - 2) ≡ check_of (take (length t - 2) t)
    → ⊥
stretch s t k hs ht b h p q =
    let l : length s ≡ length t = b.long in
    frame hs ht b 0 (check_of-stretch s hs h p) (check_of-stretch t ht (omega arith) q)
