-- `control::reset` meets its contract.
use Rattle.std.proofs.Common.{arith}
use Rattle.std.proofs.lemmas.Grind.{common_steps}
use Rattle.model.specs.Control.{reset_when}
use Rattle.control.proofs.reset.Goals as goal

pub returns-in-Free : goal.returns-in-Free
unfolding reset_when
returns-in-Free c = grind (arith, common_steps)

pub returns-in-Held : goal.returns-in-Held
unfolding reset_when
returns-in-Held c = grind (arith, common_steps)
