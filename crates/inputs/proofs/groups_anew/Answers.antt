-- `inputs::groups_anew` meets its contract. The invariant: the first k numbers are done. Assumes nothing.
use Rattle.chars.specs.Gather.{gather}
use Rattle.chars.proofs.GatherLaws.{up_none, up_next}
use Rattle.layout.proofs.ContactLaws.{anew-none}
use Rattle.points.proofs.AnewLaws.{anew-more}
use Rattle.inputs.proofs.groups_anew.Goals as goal

pub loop-k-init : goal.loop-k-init
unfolding gather
loop-k-init c = rw up_none (anew-none _)

pub loop-k-preserved : goal.loop-k-preserved
loop-k-preserved c = rw up_next (anew-more _ _ _ _ _ c.loop-k.invariant c.start_anew.ensures)
