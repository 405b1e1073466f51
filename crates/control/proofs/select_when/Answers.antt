-- `control::select_when` meets its contract.
use Rattle.std.proofs.Common.{arith}
use Rattle.std.proofs.lemmas.Grind.{common_steps}
use Rattle.chars.proofs.PutLaws.{put-none}
use Rattle.model.specs.Control.{select_when}
use Rattle.control.proofs.select_when.Goals as goal

pub returns-in-Free : goal.returns-in-Free
unfolding select_when
returns-in-Free c = grind (arith, common_steps)

pub returns-in-Held : goal.returns-in-Held
unfolding select_when
returns-in-Held c = grind (arith, common_steps, put-none)
