-- `checkword::worked` meets its contract, by what three folds leave.
-- Assumes nothing.
use Rattle.checkword.proofs.Folding.{worked_alike}
use Rattle.checkword.proofs.worked.Goals as goal

pub returns : goal.returns
returns c =
    worked_alike c.args.v _ _ _ c.args.a _ _
    c.fold.ensures
    c.fold-2.ensures
    c.fold-y.ensures
    c.divided.ensures
    c.evened.ensures
