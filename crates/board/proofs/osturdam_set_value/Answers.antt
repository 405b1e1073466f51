-- `board::osturdam_set_value` meets its contract. Assumes nothing.
use Rattle.board.proofs.osturdam_set_value.Goals as goal

pub returns : goal.returns
returns c = record { answer = _; tells = c.set_value.ensures; said = c.from.ensures }
