-- `inputs::kind` meets its contract. Assumes nothing.
use Rattle.chars.proofs.GatherLaws.{gathered_none}
use Rattle.inputs.proofs.kind.Goals as goal

pub returns-else-chosen-clause-gathered : goal.returns-else-chosen-clause-gathered
returns-else-chosen-clause-gathered c = rw c.if-chosen.false (gathered_none _ _ _)
