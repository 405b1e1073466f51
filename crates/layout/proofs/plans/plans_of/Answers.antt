-- `layout::plans::plans_of` meets its contract. Assumes nothing.
use mathlib.Core.Path.{sym}
use Rattle.chars.specs.Put.{part}
use Rattle.layout.specs.Regions.{start_in}
use Rattle.layout.specs.Unit.{unit_sizes}
use Rattle.layout.proofs.UnitLaws.{plans_is}
use Rattle.layout.proofs.plans.plans_of.Goals as goal

pub returns : goal.returns
unfolding start_in unit_sizes part
returns c = sym (plans_is _)
