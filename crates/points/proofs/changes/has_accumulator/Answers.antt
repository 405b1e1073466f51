-- `points::changes::has_accumulator` meets its contract. Assumes nothing.
use Rattle.std.proofs.Common.{arith}
use Rattle.std.proofs.lemmas.Grind.{common_steps}
use Rattle.model.specs.Inputs.{has_accumulator}
use Rattle.points.proofs.changes.has_accumulator.Goals as goal

pub returns-then-is_accumulator : goal.returns-then-is_accumulator
unfolding has_accumulator
returns-then-is_accumulator c = grind (arith, common_steps)

pub returns-else-is_accumulator : goal.returns-else-is_accumulator
unfolding has_accumulator
returns-else-is_accumulator c = grind (arith, common_steps)
