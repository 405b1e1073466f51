-- `checkword::check_number` meets its contract: what is worked is alike by one factor, and its ones by the other.
-- Assumes nothing.
use Rattle.checkword.proofs.Eights.{in_two}
use Rattle.checkword.proofs.check_number.Goals as goal

pub returns : goal.returns
returns c = in_two _ _ c.worked.ensures
