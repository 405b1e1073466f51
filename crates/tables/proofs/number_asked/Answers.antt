-- `tables::number_asked` meets its contract. Assumes nothing.
use Rattle.std.proofs.Common.{arith}
use Rattle.std.proofs.lemmas.Grind.{common_steps}
use Rattle.model.specs.Config.{within}
use Rattle.model.specs.Scan.{counts, with_no_data}
use Rattle.model.specs.Tables.{table_asked}
use Rattle.tables.proofs.number_asked.Goals as goal

pub returns-then-not-contains : goal.returns-then-not-contains
unfolding table_asked within
returns-then-not-contains c = record { refused = λ scan. grind (arith, common_steps) }

pub returns-then-not-is_empty : goal.returns-then-not-is_empty
unfolding table_asked within with_no_data counts
returns-then-not-is_empty c = record { refused = λ scan. grind (arith, common_steps) }

pub returns : goal.returns
unfolding table_asked within with_no_data counts
returns c = record { asks = λ scan. grind (arith, common_steps) }
