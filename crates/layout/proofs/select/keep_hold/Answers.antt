-- `layout::select::keep_hold` meets its contract. Assumes nothing.
use Rattle.layout.proofs.KeepLaws.{hold-put}
use Rattle.layout.proofs.select.keep_hold.Goals as goal

pub returns : goal.returns
returns c = hold-put _ _ c.hold_numbers.ensures c.put_hold.ensures
