-- `frames::is_command` meets its contract. Assumes nothing.
use Rattle.std.proofs.Common.{arith}
use Rattle.std.proofs.lemmas.Grind.{common_steps}
use Rattle.model.specs.Frame.{commands}
use Rattle.model.proofs.FrameLaws.{whole_long}
use Rattle.frames.proofs.is_command.Goals as goal
use Rattle.frames.proofs.is_command.Goals.{then-is_whole, else-is_whole}

pub bounds-stretch-2 : goal.bounds-stretch-2
bounds-stretch-2 c = grind (arith, common_steps, whole_long)

pub bounds-stretch-3 : goal.bounds-stretch-3
bounds-stretch-3 c = grind (arith, common_steps, whole_long)

pub returns-then-stretch-eq-INTERNAL : goal.returns-then-stretch-eq-INTERNAL
unfolding commands
returns-then-stretch-eq-INTERNAL c = grind (arith, common_steps)

pub returns-else-stretch-eq-INTERNAL : goal.returns-else-stretch-eq-INTERNAL
unfolding commands
returns-else-stretch-eq-INTERNAL c = grind (arith, common_steps)
