-- `port::heard` meets its contract. Assumes nothing.
use Rattle.std.proofs.Common.{arith}
use Rattle.std.proofs.lemmas.Grind.{common_steps}
use Rattle.port.specs.Heard.{port_heard_by}
use Rattle.port.proofs.heard.Goals as goal

pub returns-then-length-ne0 : goal.returns-then-length-ne0
unfolding port_heard_by
returns-then-length-ne0 c = grind (arith, common_steps)

pub returns-else-length-ne0 : goal.returns-else-length-ne0
unfolding port_heard_by
returns-else-length-ne0 c = grind (arith, common_steps)
