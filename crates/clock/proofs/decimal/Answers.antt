-- `clock::decimal` meets its contract.
use Rattle.std.proofs.Common.{arith}
use Rattle.std.proofs.lemmas.Grind.{common_steps}
use Rattle.model.specs.Clock.{digits}
use Rattle.clock.proofs.decimal.Goals as goal

pub returns-then-b-le9 : goal.returns-then-b-le9
unfolding digits
returns-then-b-le9 c = grind (arith, common_steps)

pub returns-else-b-le9 : goal.returns-else-b-le9
unfolding digits
returns-else-b-le9 c = grind (arith, common_steps)
