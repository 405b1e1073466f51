-- `chars::down` meets its contract: what makes no whole block goes down first, then the blocks.
use mathlib.Core.Path.{refl, ◌∙◌}
use Prim.Native.Nat.{◌*◌, ◌/◌, ◌%◌}
use native.Mathlib.Omega.{arith}
use Rattle.chars.proofs.PutLaws.{down_clipped}
use Rattle.chars.proofs.DownLaws.{moved_by, moved-room, moved_more}
use Rattle.chars.proofs.down.Goals as goal

pub blocks-requires : goal.blocks-requires
blocks-requires c =
    let n = c.room-count.result in
    moved-room (moved_by _ _ _ _ _ (n % 64) (omega arith) c.rest-at.ensures) (64 * (n / 64)) n (omega arith) (omega arith)

pub returns : goal.returns
returns c =
    let n = c.room-count.result in
    let g = moved_by _ _ _ _ _ (n % 64) (omega arith) c.rest-at.ensures in
    (moved_more g (64 * (n / 64)) n _ _ (omega arith) (omega arith) refl c.blocks-2.ensures).chars ∙ down_clipped _ _ _ _ _ (omega arith)
