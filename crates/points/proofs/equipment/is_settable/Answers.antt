-- `points::equipment::is_settable` meets its contract. Assumes nothing.
use Rattle.std.proofs.Common.{arith}
use Rattle.std.proofs.lemmas.Grind.{common_steps}
use Rattle.model.specs.Config.{two_bit}
use Rattle.model.specs.Inputs.{settable}
use Rattle.points.proofs.equipment.is_settable.Goals as goal

pub returns-then-number-ge32 : goal.returns-then-number-ge32
unfolding settable two_bit
returns-then-number-ge32 c = grind (arith, common_steps)

pub returns-else-number-ge32 : goal.returns-else-number-ge32
unfolding settable two_bit
returns-else-number-ge32 c = grind (arith, common_steps)
