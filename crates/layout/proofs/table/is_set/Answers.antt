-- `layout::table::is_set` meets its contract. Assumes nothing.
use Rattle.std.proofs.Common.{rules}
use Rattle.model.specs.Config.{has}
use Rattle.layout.proofs.table.is_set.Goals as goal

pub returns : goal.returns
unfolding has
returns c = search rules
