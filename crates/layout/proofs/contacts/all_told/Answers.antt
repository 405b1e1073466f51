-- `layout::contacts::all_told` meets its contract. Assumes nothing.
use Rattle.layout.proofs.ContactLaws.{told_both}
use Rattle.layout.proofs.contacts.all_told.Goals as goal

pub returns : goal.returns
returns c = told_both _ _ c.no_mark.ensures c.no_change.ensures
