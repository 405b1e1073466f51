-- `frames::is_whole` meets its contract. Assumes nothing.
use Rattle.std.proofs.Common.{arith}
use Rattle.std.proofs.lemmas.Grind.{common_steps}
use Rattle.model.specs.Frame.{whole}
use Rattle.frames.proofs.is_whole.Goals as goal

pub returns-then-contains : goal.returns-then-contains
unfolding whole
returns-then-contains c = grind (arith, common_steps)

pub returns-else-contains : goal.returns-else-contains
unfolding whole
returns-else-contains c = grind (arith, common_steps)
