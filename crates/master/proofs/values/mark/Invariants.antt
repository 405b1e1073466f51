use lib.ListN.{take}
use Rattle.master.specs.Marked.{Marked}
use Rattle.master.proofs.values.mark.Given as goal

abbrev pub invariant-loop-y : goal.invariant-loop-y
invariant-loop-y l = Marked (take l.y-index l.ys) l.marks
