-- `control::select` meets its contract: the count is judged, then the number, then the select that is held.
use Rattle.std.proofs.Common.{arith}
use Rattle.std.proofs.lemmas.Grind.{common_steps}
use Rattle.chars.proofs.PutLaws.{put-none}
use Rattle.model.specs.Scan.{counts}
use Rattle.model.specs.Control.{select_of}
use Rattle.control.proofs.select.Goals as goal

pub returns-then-body-ne1 : goal.returns-then-body-ne1
unfolding select_of counts
returns-then-body-ne1 c = grind (arith, common_steps, put-none)

pub returns-then-has_output : goal.returns-then-has_output
unfolding select_of counts
returns-then-has_output c = grind (arith, common_steps)

pub returns : goal.returns
unfolding select_of counts
returns c = grind (arith, common_steps, put-none)
