-- `board::osturdam_elapsed` meets its contract. Assumes nothing.
use Rattle.board.proofs.osturdam_elapsed.Goals as goal

pub returns : goal.returns
returns c = record { answer = _; tells = c.elapsed.ensures; said = c.from.ensures }
