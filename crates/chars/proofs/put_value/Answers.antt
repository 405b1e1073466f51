-- `chars::put_value` meets its contract: a value's characters are those that std gives.
use mathlib.Core.Path.{◌≡◌, ap, ◌∙◌}
use mathlib.Core.List.{[], ◌∷◌}
use Prim.Native.Nat.{◌/◌, ◌%◌}
use native.Mathlib.Omega.{arith}
use Rattle.chars.specs.Put.{put}
use Rattle.chars.specs.Word.{value}
use Rattle.chars.proofs.put_value.Goals as goal

pub returns : goal.returns
unfolding value
returns c =
    let a = c.args in
    let high : a.v / 16777216 % 256 ≡ a.v / 16777216 = omega arith in
    c.put_bytes.ensures
    ∙ ap (put a.b.now a.at) (c.to_le_bytes.ensures ∙ ap (λ x. a.v % 256 ∷ a.v / 256 % 256 ∷ a.v / 65536 % 256 ∷ x ∷ []) high)
