-- `layout::told` meets its contract. Assumes nothing.
use mathlib.Core.Path.{refl}
use Rattle.layout.specs.Regions.{start_in}
use Rattle.layout.specs.Unit.{unit_sizes, places_of}
use Rattle.layout.proofs.told.Goals as goal

pub returns : goal.returns
unfolding start_in unit_sizes places_of
returns c = refl
