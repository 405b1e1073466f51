-- `board::osturdam_store_record` meets its contract. Assumes nothing.
use Rattle.board.proofs.osturdam_store_record.Goals as goal

pub returns : goal.returns
returns c = record { answer = _; tells = c.store_record.ensures; said = c.answer_number.ensures }
