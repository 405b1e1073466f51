-- `points::equipment::is_accumulator` meets its contract. Assumes nothing.
use Rattle.std.proofs.Common.{rules}
use Rattle.model.specs.Config.{within, accumulator}
use Rattle.points.proofs.equipment.is_accumulator.Goals as goal

pub returns : goal.returns
unfolding within accumulator
returns c = search rules
