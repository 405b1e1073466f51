-- `master::believe::chosen_most` meets its contract: as many as the kinds chosen have. Assumes nothing.
use Rattle.master.proofs.ChosenLaws.{chosen-long}
use Rattle.master.proofs.believe.chosen_most.Goals as goal

pub returns : goal.returns
returns c = chosen-long _ _ _ _ _ c.from.ensures c.from-2.ensures c.from-3.ensures c.from-4.ensures
