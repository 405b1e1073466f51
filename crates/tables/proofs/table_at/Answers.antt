-- `tables::table_at` meets its contract. Assumes nothing.
use Rattle.std.proofs.Common.{sym, ◌∙◌}
use Rattle.tables.proofs.TableLaws.{table_absent}
use Rattle.tables.proofs.table_at.Goals as goal

pub returns-else-stands-clause-value : goal.returns-else-stands-clause-value
returns-else-stands-clause-value c = c.empty.ensures ∙ sym (table_absent _ _ (sym c.stands.ensures ∙ c.if-stands.false))
