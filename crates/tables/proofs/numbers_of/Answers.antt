-- `tables::numbers_of` meets its contract. Assumes nothing.
use Rattle.std.proofs.Common.{arith}
use Rattle.std.proofs.lemmas.Grind.{common_steps}
use Rattle.chars.specs.Put.{part}
use Rattle.tables.proofs.numbers_of.Goals as goal

pub returns-clause-value : goal.returns-clause-value
unfolding part
returns-clause-value c = grind (arith, common_steps)
