-- `layout::plans::is_planned` meets its contract. Assumes nothing.
use mathlib.Core.Path.{refl}
use Rattle.model.specs.Plans.{planned}
use Rattle.layout.proofs.plans.is_planned.Goals as goal

pub returns : goal.returns
unfolding planned
returns c = refl
