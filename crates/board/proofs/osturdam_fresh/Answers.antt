-- `board::osturdam_fresh` meets its contract. Assumes nothing.
use Rattle.board.proofs.osturdam_fresh.Goals as goal

pub returns : goal.returns
returns c = c.fresh.ensures
