-- `frames::is_pair` meets its contract. Assumes nothing.
use Rattle.std.proofs.Common.{arith}
use Rattle.std.proofs.lemmas.Grind.{common_steps}
use Rattle.model.specs.Frame.{paired}
use Rattle.frames.proofs.HearLaws.{rest, short_none}
use Rattle.frames.proofs.is_pair.Goals as goal

pub returns-then-is_command-2 : goal.returns-then-is_command-2
unfolding paired
returns-then-is_command-2 c = grind (arith, common_steps, rest)

pub returns-else-is_command-2 : goal.returns-else-is_command-2
unfolding paired
returns-else-is_command-2 c = grind (arith, common_steps, rest, short_none)
