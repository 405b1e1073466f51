-- `control::operate` meets its contract.
use Rattle.std.proofs.Common.{arith}
use Rattle.std.proofs.lemmas.Grind.{common_steps}
use Rattle.model.specs.Control.{operate_when}
use Rattle.control.proofs.operate.Goals as goal

pub returns-in-TimedOut : goal.returns-in-TimedOut
unfolding operate_when
returns-in-TimedOut c = grind (arith, common_steps)

pub returns-in-Held : goal.returns-in-Held
unfolding operate_when
returns-in-Held c = grind (arith, common_steps)

pub returns-in-Held-2 : goal.returns-in-Held-2
unfolding operate_when
returns-in-Held-2 c = grind (arith, common_steps)

pub returns-in-TimedOut-2 : goal.returns-in-TimedOut-2
unfolding operate_when
returns-in-TimedOut-2 c = grind (arith, common_steps)
