-- `master::values::mark` meets its contract: the first characters are marked. Assumes nothing.
use native.Mathlib.Omega.{arith}
use Rattle.master.proofs.MarkedLaws.{marked-none, marked_more}
use Rattle.master.proofs.values.mark.Goals as goal

pub loop-y-init : goal.loop-y-init
loop-y-init c = marked-none c.args.ys.now _ c.requires

pub loop-y-preserved : goal.loop-y-preserved
loop-y-preserved c = rw c.from.ensures (marked_more c.args.ys.now _ c.loop-y.y-index c.loop-y-test.true c.loop-y.invariant (omega (arith, c.type_inv.ys c.loop-y.y-index)))
