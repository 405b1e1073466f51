-- `layout::means::asked_at` meets its contract. Assumes nothing.
use Rattle.layout.proofs.MeansLaws.{asked-none}
use Rattle.layout.proofs.means.asked_at.Goals as goal

pub returns : goal.returns
returns c = asked-none _ _ c.window_of.ensures c.taken_of.ensures
