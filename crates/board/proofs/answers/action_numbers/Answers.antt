-- `board::answers::action_numbers` meets its contract. Assumes nothing.
use Rattle.std.proofs.Common.{arith}
use Rattle.std.proofs.lemmas.Grind.{common_steps}
use Rattle.board.specs.Told.{action_number, output_number}
use Rattle.board.proofs.answers.action_numbers.Goals as goal

pub returns-in-None : goal.returns-in-None
unfolding action_number output_number
returns-in-None c = grind (arith, common_steps)

pub returns-in-Some : goal.returns-in-Some
unfolding action_number output_number
returns-in-Some c = grind (arith, common_steps)
