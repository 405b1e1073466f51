-- `clock::clock_fits` meets its contract.
use Rattle.std.proofs.Common.{arith}
use Rattle.std.proofs.lemmas.Grind.{common_steps}
use Rattle.model.specs.Clock.{clock_fits}
use Rattle.model.specs.Config.{within}
use Rattle.clock.proofs.clock_fits.Goals as goal

pub returns-then-clock-le59-2 : goal.returns-then-clock-le59-2
unfolding clock_fits within
returns-then-clock-le59-2 c = grind (arith, common_steps)

pub returns-else-clock-le59-2 : goal.returns-else-clock-le59-2
unfolding clock_fits within
returns-else-clock-le59-2 c = grind (arith, common_steps)
