-- `master::values::tells_missing` meets its contract. Assumes nothing.
use mathlib.Core.Path.{refl}
use Rattle.model.specs.Believe.{empty, tells_missing}
use Rattle.master.proofs.SameLaws.{and_assoc}
use Rattle.master.proofs.ValuesLaws.{missing-some}
use Rattle.master.proofs.values.tells_missing.Goals as goal

pub mark-requires : goal.mark-requires
mark-requires c = refl

pub misses-requires : goal.misses-requires
misses-requires c = c.mark.ensures

pub returns : goal.returns
unfolding tells_missing empty
returns c = simp (c.is_empty.ensures, c.misses.ensures, missing-some, and_assoc)
