-- `blocks::execute` meets its contract.
use Rattle.std.proofs.Common.{arith}
use Rattle.std.proofs.lemmas.Grind.{common_steps}
use Rattle.model.specs.Config.{within}
use Rattle.model.specs.Blocks.{not_executed, execute_when, execute_of}
use Rattle.layout.proofs.UnitLaws.{fixed-own}
use Rattle.blocks.proofs.execute.Goals as goal

pub returns-then-not-contains : goal.returns-then-not-contains
unfolding execute_of execute_when within not_executed
returns-then-not-contains c = grind (arith, common_steps, fixed-own)

pub returns-in-None : goal.returns-in-None
unfolding execute_of execute_when within not_executed
returns-in-None c = grind (arith, common_steps, fixed-own)

pub returns-in-Some : goal.returns-in-Some
unfolding execute_of execute_when within not_executed
returns-in-Some c = grind (arith, common_steps)

pub returns-in-Some-2 : goal.returns-in-Some-2
unfolding execute_of execute_when within not_executed
returns-in-Some-2 c = grind (arith, common_steps, fixed-own)
