-- `points::changes::set_value` meets its contract. Assumes nothing.
use Rattle.std.proofs.Common.{arith}
use Rattle.std.proofs.lemmas.Grind.{common_steps}
use Rattle.model.specs.Means.{value_settable}
use Rattle.model.specs.Calculations.{set_value_of}
use Rattle.points.proofs.changes.set_value.Goals as goal

pub returns-then-is_none : goal.returns-then-is_none
unfolding set_value_of value_settable
returns-then-is_none c = grind (arith, common_steps)

pub returns-else-has_calculation : goal.returns-else-has_calculation
unfolding set_value_of value_settable
returns-else-has_calculation c = grind (arith, common_steps)
