-- `control::take` meets its contract: one character is written, and the select begins.
use Rattle.std.proofs.Common.{arith}
use Rattle.std.proofs.lemmas.Grind.{common_steps}
use Rattle.model.specs.Control.{takes}
use Rattle.control.proofs.take.Goals as goal

pub returns : goal.returns
unfolding takes
returns c = grind (arith, common_steps)
