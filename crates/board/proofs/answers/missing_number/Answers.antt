-- `board::answers::missing_number` meets its contract. Assumes nothing.
use Rattle.std.proofs.Common.{arith}
use Rattle.std.proofs.lemmas.Grind.{common_steps}
use Rattle.board.specs.Told.{missing_in, missing_number}
use Rattle.board.proofs.answers.missing_number.Goals as goal

pub returns-in-Sampling-NotReady : goal.returns-in-Sampling-NotReady
unfolding missing_in missing_number
returns-in-Sampling-NotReady c = grind (arith, common_steps)

pub returns-in-Sampling-Ready : goal.returns-in-Sampling-Ready
unfolding missing_in missing_number
returns-in-Sampling-Ready c = grind (arith, common_steps)

pub returns-in-Sampling-Ready-2 : goal.returns-in-Sampling-Ready-2
unfolding missing_in missing_number
returns-in-Sampling-Ready-2 c = grind (arith, common_steps)
