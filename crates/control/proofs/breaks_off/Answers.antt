-- `control::breaks_off` meets its contract: only the select's own master breaks it off, and not by an operate.
use Rattle.std.proofs.Common.{arith}
use Rattle.std.proofs.lemmas.Grind.{common_steps}
use Rattle.model.specs.Control.{breaks}
use Rattle.control.proofs.breaks_off.Goals as goal

pub returns-in-Free : goal.returns-in-Free
unfolding breaks
returns-in-Free c = grind (arith, common_steps)

pub returns-then-eq : goal.returns-then-eq
unfolding breaks
returns-then-eq c = grind (arith, common_steps)

pub returns-else-eq : goal.returns-else-eq
unfolding breaks
returns-else-eq c = grind (arith, common_steps)
