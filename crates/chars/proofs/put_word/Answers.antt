-- `chars::put_word` meets its contract: a word's characters are those that std gives.
use mathlib.Core.Path.{◌≡◌, ap, ◌∙◌}
use mathlib.Core.List.{[], ◌∷◌}
use Prim.Native.Nat.{◌/◌, ◌%◌}
use native.Mathlib.Omega.{arith}
use Rattle.chars.specs.Put.{put}
use Rattle.chars.specs.Word.{word}
use Rattle.chars.proofs.put_word.Goals as goal

pub returns : goal.returns
unfolding word
returns c =
    let a = c.args in
    let high : a.v / 256 % 256 ≡ a.v / 256 = omega arith in
    c.put_bytes.ensures ∙ ap (put a.b.now a.at) (c.to_le_bytes.ensures ∙ ap (λ x. a.v % 256 ∷ x ∷ []) high)
