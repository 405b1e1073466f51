-- `board::osturdam_set_word` meets its contract. Assumes nothing.
use Rattle.board.proofs.osturdam_set_word.Goals as goal

pub returns : goal.returns
returns c = record { answer = _; tells = c.set_word.ensures; said = c.from.ensures }
