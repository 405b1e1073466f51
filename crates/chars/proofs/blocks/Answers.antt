-- `chars::blocks` meets its contract. The invariant of its loop: i blocks went down.
use mathlib.Core.Path.{sym}
use Prim.Native.Nat.{◌+◌, ◌*◌, ◌/◌}
use native.Mathlib.Omega.{arith}
use Rattle.chars.proofs.PutLaws.{copy_none}
use Rattle.chars.proofs.DownLaws.{moved_is, moved-room, moved_more}
use Rattle.chars.proofs.blocks.Goals as goal

pub loop-i-init : goal.loop-i-init
loop-i-init c = record { reach = omega arith; place = omega arith; chars = sym (copy_none _ _ _ _) }

pub block-requires : goal.block-requires
block-requires c =
    let l = c.loop-i in
    omega (arith, moved-room l.invariant 64 (64 * (l.i + 1)) (omega arith) (omega arith))

pub loop-i-preserved : goal.loop-i-preserved
loop-i-preserved c =
    let l = c.loop-i in
    moved_more l.invariant 64 (64 * (l.i + 1)) _ _ (omega arith) (omega arith) (omega arith) c.block.ensures

pub returns : goal.returns
returns c = (moved_is c.loop-i.invariant (64 * (c.args.n / 64)) (omega arith)).1
