-- `frames::data_behind` meets its contract: nothing, or what stands between head and check. Assumes nothing.
use Rattle.std.proofs.Common.{arith}
use Rattle.std.proofs.lemmas.Grind.{common_steps}
use Rattle.chars.specs.Put.{part}
use Rattle.frames.proofs.data_behind.Goals as goal

pub returns : goal.returns
unfolding part
returns c = grind (arith, common_steps)
