-- The bits of a list on the line are the bits of the list as one number, which gives the list back; and that number part by part.
-- Assumes nothing.
use mathlib.Core.Path.{◌≡◌, refl, sym, ap, ap₂, ◌∙◌, subst}
use mathlib.Core.List.{List, [], ◌∷◌, ◌++◌}
use Prim.Native.Nat.{ℕ, zero, suc, ◌+◌, ◌-◌, ◌*◌, ◌/◌, ◌%◌, ◌^◌, ◌≤◌, ◌<◌}
use native.Mathlib.Nat.{zero-add, zero-div, add_comm, mul_assoc, mod-eq_of_lt, add-mul-mod_self_right}
use native.Mathlib.Decide.{dec_lt}
use native.Mathlib.Omega.{arith}
use lib.ListN.{length, take, drop, get_or}
use lib.Seq.{drop-cons}
use Rattle.std.proofs.Math.ListN.{drop_of_length-le}
use Rattle.std.specs.Int.{from_le_bytes, w32, w64}
use lib.Bits.{xor_comm, xor_zero_r, xor_shifted}
use lib.Pow.{pow-add, shl-shr, shr-shr, high}
use Rattle.chars.specs.Put.{part}
use Rattle.chars.specs.Word.{Characters}
use Rattle.chars.proofs.PutLaws.{length_part, part_add, part-whole}
use Rattle.chars.proofs.WordLaws.{characters-take, characters-drop}
use Rattle.checkword.specs.Line.{bit_at, line}
use Rattle.checkword.proofs.Binary.{low_bit, fallen_out}

pub line_cons : (b : ℕ) (s : List ℕ) → b < 256 → line (b ∷ s) ≡ line s * 2 ^ 8 + b
unfolding line
line_cons b s h = xor_comm b (line s * 2 ^ 8) ∙ xor_shifted (line s) 8 b h

-- at a character's own eight places, and past them
cons_bit : (b : ℕ) (s : List ℕ) → b < 256 → (i : ℕ) → bit_at s (i - 8) ≡ line s / 2 ^ (i - 8) % 2
    → bit_at (b ∷ s) i ≡ line (b ∷ s) / 2 ^ i % 2
unfolding bit_at
cons_bit b s hb i ih = elim (dec_lt i 8) [ yes l ↦ first l | no n ↦ later (omega arith) ]
  where
    first : i < 8 → bit_at (b ∷ s) i ≡ line (b ∷ s) / 2 ^ i % 2
    first l =
        let q : i / 8 ≡ 0 = omega arith in
        let r : i % 8 ≡ i = omega arith in
        ap₂ (λ x y. get_or (b ∷ s) x 0 / 2 ^ y % 2) q r
        ∙ sym (low_bit 8 i (line s) b l)
        ∙ ap (λ x. x / 2 ^ i % 2) (sym (line_cons b s hb))

    later : 8 ≤ i → bit_at (b ∷ s) i ≡ line (b ∷ s) / 2 ^ i % 2
    later l =
        let q : i / 8 ≡ suc ((i - 8) / 8) = omega arith in
        let r : i % 8 ≡ (i - 8) % 8 = omega arith in
        ap₂ (λ x y. get_or (b ∷ s) x 0 / 2 ^ y % 2) q r
        ∙ ih
        ∙ ap (λ x. x / 2 ^ (i - 8) % 2) (sym (high (line s) 8 hb))
        ∙ ap (λ x. x % 2) (shr-shr (line s * 2 ^ 8 + b) 8 (i - 8))
        ∙ ap₂ (λ x y. x / 2 ^ y % 2) (sym (line_cons b s hb)) (omega arith)

pub line-bit : (s : List ℕ) → Characters s → (i : ℕ) → bit_at s i ≡ line s / 2 ^ i % 2
unfolding bit_at line
line-bit [] h i = ap (λ x. x % 2) (zero-div (2 ^ (i % 8)) ∙ sym (zero-div (2 ^ i)))
line-bit (b ∷ s) h i = cons_bit b s (h 0) i (line-bit s (λ j. h (suc j)) (i - 8))

pub line_inj : (s t : List ℕ) → Characters s → Characters t → length s ≡ length t → line s ≡ line t → s ≡ t
line_inj [] [] hs ht l e = refl
line_inj [] (b ∷ t) hs ht l e = absurd (omega arith)
line_inj (a ∷ s) [] hs ht l e = absurd (omega arith)
line_inj (a ∷ s) (b ∷ t) hs ht l e =
    let d : line s * 2 ^ 8 + a ≡ line t * 2 ^ 8 + b = sym (line_cons a s (hs 0)) ∙ e ∙ line_cons b t (ht 0) in
    ap₂ ◌∷◌ (omega (arith, hs 0, ht 0)) (line_inj s t (λ i. hs (suc i)) (λ i. ht (suc i)) (omega arith) (omega (arith, hs 0, ht 0)))

-- ---- the number of a part, from those of its parts

eight_up : (n : ℕ) → 2 ^ (8 * suc n) ≡ 2 ^ (8 * n) * 2 ^ 8
eight_up n = ap (λ k. 2 ^ k) (omega arith) ∙ pow-add 2 (8 * n) 8

line_append : (xs ys : List ℕ) → Characters xs → line (xs ++ ys) ≡ line xs + line ys * 2 ^ (8 * length xs)
unfolding line
line_append [] ys h = omega arith
line_append (x ∷ xs) ys h =
    line_cons x (xs ++ ys) (h 0)
    ∙ omega (arith, line_append xs ys (λ i. h (suc i)), line_cons x xs (h 0), ap (λ k. line ys * k) (eight_up (length xs)))

pub line_join : (s : List ℕ) → Characters s → (i m n : ℕ) → i + m ≤ length s
    → line (part s i (m + n)) ≡ line (part s i m) + line (part s (i + m) n) * 2 ^ (8 * m)
unfolding part
line_join s hs i m n h =
    ap line (part_add s i m n)
    ∙ line_append (part s i m) (part s (i + m) n) (characters-take m (drop i s) (characters-drop i s hs))
    ∙ ap (λ k. line (part s i m) + line (part s (i + m) n) * 2 ^ (8 * k)) (length_part s i m h)

pub line-one : (s : List ℕ) (i : ℕ) → i < length s → line (part s i 1) ≡ get_or s i 0
unfolding line part
line-one s i h = ap (λ l. line (take 1 l)) (drop-cons s i 0 h) ∙ xor_zero_r (get_or s i 0)

pub line_lt : (s : List ℕ) → Characters s → line s < 2 ^ (8 * length s)
unfolding line
line_lt [] h = omega arith
line_lt (c ∷ s) h = omega (arith, line_cons c s (h 0), line_lt s (λ i. h (suc i)), h 0, eight_up (length s))

part_lt : (s : List ℕ) → Characters s → (i n : ℕ) → i + n ≤ length s → line (part s i n) < 2 ^ (8 * n)
unfolding part
part_lt s hs i n h =
    subst (λ x. line (part s i n) < 2 ^ (8 * x)) (length_part s i n h) (line_lt (part s i n) (characters-take n (drop i s) (characters-drop i s hs)))

-- by its characters, low first: that at k, and those behind it
line-at : (s : List ℕ) → Characters s → (k : ℕ) → line (drop k s) ≡ get_or s k 0 + 256 * line (drop (suc k) s)
unfolding line
line-at [] h zero = refl
line-at [] h (suc k) = refl
line-at (c ∷ s) h zero = omega (arith, line_cons c s (h 0))
line-at (c ∷ s) h (suc k) = line-at s (λ i. h (suc i)) k

line-end : (s : List ℕ) (n : ℕ) → length s ≡ n → line (drop n s) ≡ 0
unfolding line
line-end s n e = ap line (drop_of_length-le s (omega arith))

-- the n of them from i on, as std hands them over
read_part : (s : List ℕ) (i n : ℕ) (read : List ℕ) → read ≡ take (i + n - i) (drop i s) → read ≡ part s i n
unfolding part
read_part s i n read e = e ∙ ap (λ k. take k (drop i s)) (omega arith)

characters_part : (s : List ℕ) → Characters s → (i n : ℕ) → Characters (part s i n)
unfolding part
characters_part s h i n = characters-take n (drop i s) (characters-drop i s h)

-- four and eight of them, as std puts them together
of_four : (s : List ℕ) → Characters s → length s ≡ 4 → from_le_bytes w32 s ≡ line s
of_four s h e = omega (arith, line-at s h 0, line-at s h 1, line-at s h 2, line-at s h 3, line-end s 4 e)

of_eight : (s : List ℕ) → Characters s → length s ≡ 8 → from_le_bytes w64 s ≡ line s
of_eight s h e =
    omega (arith, line-at s h 0, line-at s h 1, line-at s h 2, line-at s h 3, line-at s h 4, line-at s h 5, line-at s h 6, line-at s h 7, line-end s 8 e)

pub line_four : (s : List ℕ) → Characters s → (i : ℕ) (read : List ℕ) → i + 4 ≤ length s → read ≡ take (i + 4 - i) (drop i s)
    → from_le_bytes w32 read ≡ line (part s i 4)
line_four s hs i read h e = rw (read_part s i 4 read e) (of_four (part s i 4) (characters_part s hs i 4) (length_part s i 4 h))

pub line_eight : (s : List ℕ) → Characters s → (i : ℕ) (read : List ℕ) → i + 8 ≤ length s → read ≡ take (i + 8 - i) (drop i s)
    → from_le_bytes w64 read ≡ line (part s i 8)
line_eight s hs i read h e = rw (read_part s i 8 read e) (of_eight (part s i 8) (characters_part s hs i 8) (length_part s i 8 h))

-- of the first eight characters those from n on fall out of 64 places
pub line-high : (s : List ℕ) → Characters s → (n : ℕ) → n ≤ 8 → 8 ≤ length s
    → line (part s 0 8) * 2 ^ (64 - 8 * n) % 2 ^ 64 ≡ line (part s 0 n) * 2 ^ (64 - 8 * n)
line-high s hs n h k =
    let l : 0 + n ≤ length s = omega arith in
    let d : 8 ≡ n + (8 - n) = omega arith in
    fallen_out (line (part s 0 8)) (64 - 8 * n) (8 * n) 64 (omega arith)
    ∙ ap (λ x. x * 2 ^ (64 - 8 * n))
    (ap (λ x. line (part s 0 x) % 2 ^ (8 * n)) d
    ∙ ap (λ x. x % 2 ^ (8 * n)) (line_join s hs 0 n (8 - n) l)
    ∙ add-mul-mod_self_right (line (part s 0 n)) (line (part s (0 + n) (8 - n))) (2 ^ (8 * n))
    ∙ mod-eq_of_lt (part_lt s hs 0 n l))

-- ---- the number of a short list

-- of the last four characters of four to eight, those after the first four
pub line-ends : (s : List ℕ) → Characters s → (n : ℕ) → n ≡ length s → 4 ≤ n → n ≤ 8
    → line s ≡ line (part s 0 4) + line (part s (n - 4) 4) / 2 ^ (64 - 8 * n) * 2 ^ 32
line-ends s hs n e h k =
    let m = n - 4 in
    let first : 0 + 4 ≤ length s = omega arith in
    let l : m + (8 - n) ≤ length s = omega arith in
    let p : n ≡ 4 + m = omega arith in
    let q : 4 ≡ (8 - n) + m = omega arith in
    let at : m + (8 - n) ≡ 4 = omega arith in
    let up : 8 * (8 - n) ≡ 64 - 8 * n = omega arith in
    let a = line (part s m (8 - n)) in
    let b = line (part s 4 m) in
    let four : line (part s m 4) ≡ b * 2 ^ (64 - 8 * n) + a =
    ap (λ x. line (part s m x)) q
    ∙ line_join s hs m (8 - n) m l
    ∙ ap₂ (λ x y. a + line (part s x m) * 2 ^ y) at up
    ∙ add_comm a (b * 2 ^ (64 - 8 * n)) in
    let rest : line (part s m 4) / 2 ^ (64 - 8 * n) ≡ b =
    ap (λ x. x / 2 ^ (64 - 8 * n)) four ∙ high b (64 - 8 * n) (subst (λ x. a < 2 ^ x) up (part_lt s hs m (8 - n) l)) in
    ap line (sym (part-whole s n e))
    ∙ ap (λ x. line (part s 0 x)) p
    ∙ line_join s hs 0 4 m first
    ∙ ap (λ x. line (part s 0 4) + x * 2 ^ 32) (sym rest)

-- one character more comes in at the top of 64 places
pub line_top : (s : List ℕ) → Characters s → (i v : ℕ) → i < length s → i < 8 → v ≡ line (part s 0 i) * 2 ^ (64 - 8 * i)
    → v / 256 + 2 ^ 56 * get_or s i 0 ≡ line (part s 0 (i + 1)) * 2 ^ (64 - 8 * (i + 1))
line_top s hs i v h l e =
    let k = 64 - 8 * (i + 1) in
    let a = line (part s 0 i) in
    let c = get_or s i 0 in
    let reach : 0 + i ≤ length s = omega arith in
    let more : line (part s 0 (i + 1)) ≡ a + c * 2 ^ (8 * i) =
    line_join s hs 0 i 1 reach ∙ ap (λ x. a + x * 2 ^ (8 * i)) (ap (λ j. line (part s j 1)) (zero-add i) ∙ line-one s i h) in
    let m : 64 - 8 * i ≡ k + 8 = omega arith in
    let n : 8 * i + k ≡ 56 = omega arith in
    let up : 2 ^ (64 - 8 * i) ≡ 2 ^ k * 2 ^ 8 = ap (λ x. 2 ^ x) m ∙ pow-add 2 k 8 in
    let top : 2 ^ (8 * i) * 2 ^ k ≡ 2 ^ 56 = sym (pow-add 2 (8 * i) k) ∙ ap (λ x. 2 ^ x) n in
    let old : v / 256 ≡ a * 2 ^ k =
    ap (λ x. x / 256) (e ∙ ap (λ x. a * x) up ∙ sym (mul_assoc a (2 ^ k) (2 ^ 8))) ∙ shl-shr (a * 2 ^ k) 8 in
    let new : c * 2 ^ (8 * i) * 2 ^ k ≡ c * 2 ^ 56 = mul_assoc c (2 ^ (8 * i)) (2 ^ k) ∙ ap (λ x. c * x) top in
    let joined : v / 256 + 2 ^ 56 * c ≡ (a + c * 2 ^ (8 * i)) * 2 ^ k = omega (arith, old, new) in
    joined ∙ ap (λ x. x * 2 ^ k) (sym more)
