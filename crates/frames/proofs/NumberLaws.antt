-- Laws of a frame's first characters as one number.
-- Assumes nothing.
use mathlib.Core.Path.{◌≡◌, refl, sym, ap, ◌∙◌}
use Prim.Native.Nat.{ℕ, ◌+◌, ◌-◌, ◌*◌, ◌/◌, ◌%◌, ◌^◌, ◌<◌}
use native.Mathlib.Omega.{arith}
use mathlib.Core.List.{List, [], ◌∷◌, ◌++◌}
use lib.ListN.{take}
use Rattle.chars.specs.Word.{word}
use Rattle.checkword.specs.Line.{line}
use Rattle.checkword.proofs.Line.{line_cons}
use Rattle.model.specs.Frame.{head_chars}
use Rattle.model.specs.declared.Frame.{Frame}
use Rattle.model.specs.declared.Reply.{Reply}
use Rattle.frames.specs.Framed.{asked_head}

line-none : line [] ≡ 0
unfolding line
line-none = refl

line_word : (v : ℕ) (s : List ℕ) → v < 65536 → line (word v ++ s) ≡ v + 65536 * line s
unfolding word
line_word v s h =
    let low : v % 256 < 256 = omega arith in
    let high : v / 256 < 256 = omega arith in
    omega (arith, line_cons (v % 256) (v / 256 ∷ s) low, line_cons (v / 256) s high)

line-zero : line (word 0) ≡ 0
unfolding line word
line-zero = refl

-- a request without data
pub asked-line : (f : Frame) → f.address < 65536 → f.function < 256 → f.command < 256
    → 65536 * f.address + (4294967296 * f.function + 1099511627776 * f.command) ≡ line (asked_head f 0) * 2 ^ 16
unfolding asked_head
asked-line f a b c =
    let whole : line (asked_head f 0) ≡ f.address + 65536 * line (f.function ∷ f.command ∷ word 0) = line_word f.address (f.function ∷ f.command ∷ word 0) a in
    omega (arith, whole, line_cons f.function (f.command ∷ word 0) b, line_cons f.command (word 0) c, line-zero)

-- a reply's head, and what stands behind it
abbrev pub front : Reply → ℕ
front r = r.address + (65536 * r.function + (16777216 * r.status + (4294967296 * r.port + 1099511627776 * r.count)))

module _ (r : Reply) (a : r.address < 65536) (b : r.function < 256) (c : r.status < 256) (d : r.port < 256) where
  head-line : r.count < 65536 → (ys : List ℕ) → line (head_chars r ++ ys) ≡ front r + 72057594037927936 * line ys
  unfolding head_chars word
  head-line e ys =
      let rest = word r.count ++ ys in
      let whole : line (head_chars r ++ ys) ≡ r.address + 65536 * line (r.function ∷ r.status ∷ r.port ∷ rest) =
      line_word r.address (r.function ∷ r.status ∷ r.port ∷ rest) a in
      omega (
        arith,
        whole,
        line_cons r.function (r.status ∷ r.port ∷ rest) b,
        line_cons r.status (r.port ∷ rest) c,
        line_cons r.port rest d,
        line_word r.count ys e,
      )

  -- with no character of data, and with one
  pub none-line : (x : ℕ) → r.count ≡ 0 → 256 * front r ≡ line (head_chars r ++ take r.count (x ∷ [])) * 2 ^ (8 * (1 - r.count))
  none-line x e =
      let most : r.count < 65536 = omega arith in
      let whole : 256 * front r ≡ line (head_chars r ++ []) * 256 = omega (arith, head-line most [], line-none) in
      whole ∙ ap (λ n. line (head_chars r ++ take n (x ∷ [])) * 2 ^ (8 * (1 - n))) (sym e)

  pub one_line : (x : ℕ) → x < 256 → r.count ≡ 1 → front r + 72057594037927936 * x ≡ line (head_chars r ++ take r.count (x ∷ [])) * 2 ^ (8 * (1 - r.count))
  one_line x l e =
      let most : r.count < 65536 = omega arith in
      let whole : front r + 72057594037927936 * x ≡ line (head_chars r ++ (x ∷ [])) * 1 =
      omega (arith, head-line most (x ∷ []), line_cons x [] l, line-none) in
      whole ∙ ap (λ n. line (head_chars r ++ take n (x ∷ [])) * 2 ^ (8 * (1 - n))) (sym e)
