-- `unit::time::core_after` meets its contract. Assumes nothing.
use Rattle.model.specs.Step.{core_after}
use Rattle.unit.proofs.time.core_after.Goals as goal

pub returns : goal.returns
unfolding core_after
returns c = cc
