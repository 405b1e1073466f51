-- `tables::area_at` meets its contract. Assumes nothing.
use Rattle.std.proofs.Common.{arith}
use Rattle.std.proofs.lemmas.Grind.{common_steps}
use Rattle.chars.specs.Put.{part}
use Rattle.layout.proofs.UnitLaws.{unit-long}
use Rattle.tables.proofs.TableLaws.{fixed-long}
use Rattle.tables.proofs.area_at.Goals as goal

pub slice_bounds-try_into-end : goal.slice_bounds-try_into-end
slice_bounds-try_into-end c = omega (arith, fixed-long _ _ (unit-long _ c.told-unit) c.fixed_of.ensures)

pub returns : goal.returns
unfolding part
returns c = grind (arith, common_steps)
