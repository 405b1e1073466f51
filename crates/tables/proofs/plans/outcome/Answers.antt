-- `tables::plans::outcome` meets its contract. Assumes nothing.
use Rattle.std.proofs.Common.{arith}
use Rattle.tables.proofs.PlannedLaws.{outcome_judged}
use Rattle.tables.proofs.plans.outcome.Goals as goal

pub returns-then-words-gt255 : goal.returns-then-words-gt255
returns-then-words-gt255 c = λ table area a f. let e = outcome_judged a f (omega arith) (omega arith) in grind (arith, e)

pub returns-else-words-gt255 : goal.returns-else-words-gt255
returns-else-words-gt255 c = λ table area a f. let e = outcome_judged a f (omega arith) (omega arith) in grind (arith, e)

pub returns-else-able-k : goal.returns-else-able-k
returns-else-able-k c = λ table area a f. let e = outcome_judged a f (omega arith) (omega arith) in grind (arith, e)
