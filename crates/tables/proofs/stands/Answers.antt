-- `tables::stands` meets its contract. Assumes nothing.
use Rattle.std.proofs.Common.{arith}
use Rattle.std.proofs.lemmas.Grind.{common_steps}
use Rattle.model.specs.Tables.{stands_at}
use Rattle.tables.proofs.stands.Goals as goal

pub returns-in_default : goal.returns-in_default
unfolding stands_at
returns-in_default c = grind (arith, common_steps)

pub returns-then-nibbles-ne0 : goal.returns-then-nibbles-ne0
unfolding stands_at
returns-then-nibbles-ne0 c = grind (arith, common_steps)

pub returns-else-nibbles-ne0 : goal.returns-else-nibbles-ne0
unfolding stands_at
returns-else-nibbles-ne0 c = grind (arith, common_steps)

pub returns-else-from-numbers : goal.returns-else-from-numbers
unfolding stands_at
returns-else-from-numbers c = grind (arith, common_steps)
