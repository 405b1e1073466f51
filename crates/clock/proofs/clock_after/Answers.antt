-- `clock::clock_after` meets its contract.
use Rattle.std.proofs.Common.{arith}
use Rattle.std.proofs.lemmas.Grind.{common_steps}
use Rattle.model.specs.Clock.{clock_after}
use Rattle.clock.proofs.clock_after.Goals as goal

pub returns : goal.returns
unfolding clock_after
returns c = grind (arith, common_steps)
