-- `inputs::kinds` meets its contract: four runs, each from where the one before it ended. Assumes nothing.
use Rattle.chars.proofs.GatherLaws.{gathered_join}
use Rattle.model.specs.Inputs.{chosen}
use Rattle.inputs.proofs.kinds.Goals as goal

pub returns-clause-gathered : goal.returns-clause-gathered
unfolding chosen
returns-clause-gathered c =
    gathered_join c.kind-at.ensures.gathered (gathered_join c.kind-at-2.ensures.gathered (gathered_join c.kind-at-3.ensures.gathered c.kind.ensures.gathered))
