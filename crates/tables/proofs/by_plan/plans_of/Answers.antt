-- `tables::by_plan::plans_of` meets its contract. Assumes nothing.
use Rattle.layout.proofs.UnitLaws.{unit-long}
use Rattle.tables.proofs.TableLaws.{plans_lent}
use Rattle.tables.proofs.by_plan.plans_of.Goals as goal

pub unwrap-requires : goal.unwrap-requires
unwrap-requires c = c.try_into.ensures.0 (plans_lent _ _ (unit-long _ c.told-unit) c.plans_of.ensures)
