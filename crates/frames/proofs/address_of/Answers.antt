-- `frames::address_of` meets its contract: the code computes as the definition does.
-- Assumes nothing.
use Rattle.model.specs.Frame.{address_of}
use Rattle.frames.proofs.address_of.Goals as goal

pub returns : goal.returns
unfolding address_of
returns c = rw c.from.ensures
