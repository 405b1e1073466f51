-- The check of the characters read so far, as a number of 64 places holds it: at the head, eight characters more, and at the end.
-- Assumes nothing.
use mathlib.Core.Path.{◌≡◌, refl, sym, ap, ap₂, ◌∙◌}
use mathlib.Core.List.{List, [], ◌∷◌}
use Prim.Native.Nat.{ℕ, ◌+◌, ◌-◌, ◌*◌, ◌/◌, ◌%◌, ◌^◌, ◌≤◌, ◌<◌}
use native.Mathlib.Nat.{div-eq_of_lt, lt_of_lt_of_le}
use native.Mathlib.Omega.{arith}
use lib.ListN.{length}
use lib.Bits.{bit_xor, xor_comm, xor_zero_r}
use lib.Pow.{pow_mono, shl_exact, shr_lt}
use Rattle.chars.specs.Put.{part}
use Rattle.chars.proofs.PutLaws.{length_part, part-whole}
use Rattle.checkword.specs.Check.{bit_steps, check_from}
use Rattle.checkword.specs.Alike.{Alike, parity}
use Rattle.checkword.specs.Line.{line}
use Rattle.checkword.proofs.Xor.{xor_assoc}
use Rattle.checkword.proofs.Binary.{fallen_out}
use Rattle.checkword.proofs.Steps.{bit_steps_xor, bit_steps_split, bit_steps_0}
use Rattle.checkword.proofs.Whole.{whole, more}
use Rattle.checkword.proofs.Alike.{alike_is, alike_then, alike_steps, alike_xor, back}
use Rattle.checkword.proofs.Parity.{parity_xor, parity_steps, alike_same}
use Rattle.checkword.proofs.Folding.{shifted}

-- ---- a start with the first of n characters, which are in the high places of x

-- as wide as one of them
pub start_fits : (v x n : ℕ) → v < 2 ^ 8 → 0 < n → n ≤ 8
    → bit_steps 64 (bit_xor x (v * 2 ^ (64 - 8 * n) % 2 ^ 64)) ≡ bit_xor (bit_steps 64 x) (bit_steps (8 * n) v)
start_fits v x n h l m =
    bit_steps_xor 64 x (v * 2 ^ (64 - 8 * n) % 2 ^ 64)
    ∙ ap (bit_xor (bit_steps 64 x))
    (ap (bit_steps 64) (shl_exact 8 (64 - 8 * n) 64 h (omega arith)) ∙ shifted (8 * n) (64 - 8 * n) v 64 (omega arith))

-- two characters are as wide as a start
pub none-past : (v n : ℕ) → v < 2 ^ 16 → 2 ≤ n → v / 2 ^ (8 * n) ≡ 0
none-past v n h l = let w : 16 ≤ 8 * n = omega arith in div-eq_of_lt (lt_of_lt_of_le h (pow_mono w))

-- what reaches past them is worth three others
pub start_wide : (v x n c : ℕ) → v < 2 ^ 16 → 0 < n → n ≤ 8 → c ≡ v / 2 ^ (8 * n)
    → bit_steps 64 (bit_xor (bit_xor x (v * 2 ^ (64 - 8 * n) % 2 ^ 64)) (bit_xor (bit_xor (c * 2 ^ 56 % 2 ^ 64) (c * 2 ^ 4 % 2 ^ 64)) c))
    ≡ bit_xor (bit_steps 64 x) (bit_steps (8 * n) v)
start_wide v x n c h l m e =
    let k = 64 - 8 * n in
    let j = 8 * n in
    let w : 16 ≤ 8 + j = omega arith in
    let a = v * 2 ^ k % 2 ^ 64 in
    let p = c * 2 ^ 56 % 2 ^ 64 in
    let q = c * 2 ^ 4 % 2 ^ 64 in
    let r = bit_xor (bit_xor p q) c in
    let low : c < 2 ^ 8 = rw e (shr_lt 8 j (lt_of_lt_of_le h (pow_mono w))) in
    let up : p ≡ c * 2 ^ 56 = omega arith in
    let up₂ : q ≡ c * 2 ^ 4 = omega arith in
    let within : bit_steps 64 a ≡ bit_steps j (v % 2 ^ j) =
    ap (bit_steps 64) (fallen_out v k j 64 (omega arith)) ∙ shifted j k (v % 2 ^ j) 64 (omega arith) in
    let past : bit_steps 64 r ≡ v / 2 ^ j =
    bit_steps_xor 64 (bit_xor p q) c
    ∙ ap (λ y. bit_xor y (bit_steps 64 c))
    (bit_steps_xor 64 p q ∙ ap₂ bit_xor (ap (bit_steps 64) up ∙ shifted 8 56 c 64 refl) (ap (bit_steps 64) up₂ ∙ shifted 60 4 c 64 refl))
    ∙ back c (omega arith)
    ∙ e in
    bit_steps_xor 64 (bit_xor x a) r
    ∙ ap₂ bit_xor (bit_steps_xor 64 x a ∙ ap (bit_xor (bit_steps 64 x)) within) past
    ∙ xor_assoc (bit_steps 64 x) (bit_steps j (v % 2 ^ j)) (v / 2 ^ j)
    ∙ ap (bit_xor (bit_steps 64 x)) (xor_comm (bit_steps j (v % 2 ^ j)) (v / 2 ^ j) ∙ sym (bit_steps_split j v))

-- ---- a list of at most eight characters

pub in_none : (v : ℕ) (s : List ℕ) → length s ≡ 0 → check_from v s ≡ v
unfolding check_from
in_none v [] e = refl
in_none v (c ∷ s) e = absurd (omega arith)

-- x in the high places, and y with the start
pub in_high : (v : ℕ) (s : List ℕ) (n x y : ℕ) → n ≡ length s → n ≤ 8 → x ≡ line s * 2 ^ (64 - 8 * n)
    → bit_steps 64 y ≡ bit_xor (bit_steps 64 x) (bit_steps (8 * n) v)
    → bit_steps 64 y ≡ check_from v s
in_high v s n x y e h is started =
    let d : 64 ≡ (64 - 8 * n) + 8 * n = omega arith in
    started
    ∙ ap (λ z. bit_xor z (bit_steps (8 * n) v)) (ap (bit_steps 64) is ∙ shifted (8 * n) (64 - 8 * n) (line s) 64 d)
    ∙ xor_comm (bit_steps (8 * n) (line s)) (bit_steps (8 * n) v)
    ∙ sym (bit_steps_xor (8 * n) v (line s))
    ∙ ap (λ k. bit_steps (8 * k) (bit_xor v (line s))) e
    ∙ sym (whole v s)

-- the check of a list that stands in the high places, from no start
pub in_number : (s : List ℕ) → length s ≤ 8 → bit_steps 64 (line s * 2 ^ (64 - 8 * length s)) ≡ check_from 0 s
in_number s h =
    in_high 0 s (length s) (line s * 2 ^ (64 - 8 * length s)) (line s * 2 ^ (64 - 8 * length s)) refl h refl
    (sym (xor_zero_r (bit_steps 64 (line s * 2 ^ (64 - 8 * length s)))) ∙ ap (bit_xor (bit_steps 64 (line s * 2 ^ (64 - 8 * length s)))) (sym (bit_steps_0 (8 * length s))))

-- and r with the ones of y
pub in_two : (y r : ℕ) → (Alike r (bit_steps 64 y)) × (parity r ≡ parity y) → r ≡ bit_steps 64 y
in_two y r last = alike_same last.0 (last.1 ∙ sym (parity_steps 64 y))

-- ---- a longer one

-- i characters of s are read from v on: w leaves what they leave, by the second factor, and the ones of a are odd as theirs are
pub record Read (v : ℕ) (s : List ℕ) (i w a : ℕ) : Type 0 where
  pub left : Alike (bit_steps 64 w) (check_from v (part s 0 i))
  pub even : parity a ≡ parity (check_from v (part s 0 i))

pub read_head : (v : ℕ) (s : List ℕ) (n x y : ℕ) → n ≤ 8 → n ≤ length s → x ≡ line (part s 0 n) * 2 ^ (64 - 8 * n)
    → bit_steps 64 y ≡ bit_xor (bit_steps 64 x) (bit_steps (8 * n) v)
    → Read v s n y y
read_head v s n x y h k is started = record { left = alike_is c; even = sym (parity_steps 64 y) ∙ ap parity c }
  where
    c : bit_steps 64 y ≡ check_from v (part s 0 n)
    c = let l : 0 + n ≤ length s = omega arith in in_high v (part s 0 n) n x y (sym (length_part s 0 n l)) h is started

-- the same count of characters, told otherwise
pub read_is : {v : ℕ} {s : List ℕ} {w a i j : ℕ} → i ≡ j → Read v s i w a → Read v s j w a
read_is e r = rw e at r

pub read_eight : (v : ℕ) (s : List ℕ) (i w a t y : ℕ) → i + 8 ≤ length s → Read v s i w a
    → Alike (bit_steps 64 t) (bit_steps 64 (bit_steps 64 w))
    → y ≡ line (part s i 8)
    → Read v s (i + 8) (bit_xor t y) (bit_xor a y)
read_eight v s i w a t y h r turned e =
    let c = check_from v (part s 0 i) in
    let next : bit_steps 64 (bit_xor c y) ≡ check_from v (part s 0 (i + 8)) = ap (λ x. bit_steps 64 (bit_xor c x)) e ∙ sym (more v s i 8 h) in
    let same : Alike (bit_steps 64 y) (bit_steps 64 y) = alike_is refl in
    record {
      left = alike_then (alike_is (bit_steps_xor 64 t y))
          (alike_then (alike_xor (alike_then turned (alike_steps 64 r.left)) same) (alike_is (sym (bit_steps_xor 64 c y) ∙ next)));
      even = parity_xor a y
          ∙ ap (λ x. (x + parity y) % 2) r.even
          ∙ sym (parity_steps 64 (bit_xor c y) ∙ parity_xor c y)
          ∙ ap parity next;
    }

pub read_end : (v : ℕ) (s : List ℕ) (i w a r : ℕ) → i ≡ length s → Read v s i w a → (Alike r (bit_steps 64 w)) × (parity r ≡ parity a)
    → r ≡ check_from v s
read_end v s i w a r h k last = alike_same (alike_then last.0 k.left) (last.1 ∙ k.even) ∙ ap (check_from v) (part-whole s i h)
