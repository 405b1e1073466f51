-- `frames::is_checked` meets its contract. Assumes nothing.
use Rattle.std.proofs.Common.{arith}
use Rattle.std.proofs.lemmas.Grind.{common_steps}
use Rattle.model.specs.Frame.{checked}
use Rattle.frames.proofs.is_checked.Goals as goal

pub returns : goal.returns
unfolding checked
returns c = grind (arith, common_steps)
