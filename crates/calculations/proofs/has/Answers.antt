-- `calculations::has` meets its contract. Assumes nothing.
use Rattle.std.proofs.Common.{arith}
use Rattle.std.proofs.lemmas.Grind.{common_steps}
use Rattle.model.specs.Config.{has, has_calculation}
use Rattle.calculations.proofs.has.Goals as goal

pub returns-then-n-lt128 : goal.returns-then-n-lt128
unfolding has has_calculation
returns-then-n-lt128 c = grind (arith, common_steps)

pub returns-else-n-lt128 : goal.returns-else-n-lt128
unfolding has_calculation
returns-else-n-lt128 c = grind (arith, common_steps)
