-- `layout::parts::put_fixed` meets its contract. Assumes nothing.
use Rattle.layout.specs.Regions.{start_in}
use Rattle.layout.specs.Unit.{unit_sizes, put_in}
use Rattle.layout.proofs.parts.put_fixed.Goals as goal

pub returns : goal.returns
unfolding put_in start_in unit_sizes
returns c = c.put_chars.ensures
