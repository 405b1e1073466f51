-- `layout::config::name_unit` meets its contract. Assumes nothing.
use Rattle.layout.specs.Regions.{start_in}
use Rattle.layout.proofs.config.name_unit.Goals as goal

pub returns : goal.returns
unfolding start_in
returns c = c.put_word.ensures
