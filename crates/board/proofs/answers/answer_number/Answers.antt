-- `board::answers::answer_number` meets its contract. Assumes nothing.
use Rattle.board.proofs.answers.answer_number.Goals as goal

pub returns-in-Ended : goal.returns-in-Ended
returns-in-Ended c = rw c.in-Ended.is c.from.ensures
