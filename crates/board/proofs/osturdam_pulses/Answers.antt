-- `board::osturdam_pulses` meets its contract. Assumes nothing.
use Rattle.board.proofs.osturdam_pulses.Goals as goal

pub returns : goal.returns
returns c = record { answer = _; tells = c.pulses.ensures; said = c.from.ensures }
