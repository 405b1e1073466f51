-- `board::osturdam_contact` meets its contract. Assumes nothing.
use Rattle.board.proofs.osturdam_contact.Goals as goal

pub returns : goal.returns
returns c = record { answer = _; tells = c.contact.ensures; said = c.from.ensures }
