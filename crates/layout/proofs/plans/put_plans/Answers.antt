-- `layout::plans::put_plans` meets its contract. Assumes nothing.
use Rattle.layout.specs.Regions.{start_in}
use Rattle.layout.specs.Unit.{unit_sizes, put_in}
use Rattle.layout.proofs.plans.put_plans.Goals as goal

pub returns : goal.returns
unfolding put_in start_in unit_sizes
returns c = c.put_chars.ensures
