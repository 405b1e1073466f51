-- `tables::area_of` meets its contract. Assumes nothing.
use mathlib.Core.Path.{sym}
use Rattle.model.specs.Tables.{table_area}
use Rattle.tables.proofs.area_of.Goals as goal

pub returns : goal.returns
unfolding table_area
returns c = c.area_at.ensures
