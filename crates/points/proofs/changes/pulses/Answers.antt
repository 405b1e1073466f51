-- `points::changes::pulses` meets its contract. Assumes nothing.
use Rattle.std.proofs.Common.{arith}
use Rattle.std.proofs.lemmas.Grind.{common_steps}
use Rattle.model.specs.Inputs.{pulses_of}
use Rattle.points.proofs.changes.pulses.Goals as goal

pub returns-then-has_accumulator : goal.returns-then-has_accumulator
unfolding pulses_of
returns-then-has_accumulator c = grind (arith, common_steps)

pub returns-else-has_accumulator : goal.returns-else-has_accumulator
unfolding pulses_of
returns-else-has_accumulator c = grind (arith, common_steps)
