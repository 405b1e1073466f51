-- `control::operates_with` meets its contract.
use Rattle.std.proofs.Common.{arith}
use Rattle.std.proofs.lemmas.Grind.{common_steps}
use Rattle.model.specs.Scan.{counts}
use Rattle.model.specs.Control.{operates}
use Rattle.control.proofs.operates_with.Goals as goal

pub returns-then-frame-2 : goal.returns-then-frame-2
unfolding operates counts
returns-then-frame-2 c = grind (arith, common_steps)

pub returns-else-frame-2 : goal.returns-else-frame-2
unfolding operates counts
returns-else-frame-2 c = grind (arith, common_steps)
