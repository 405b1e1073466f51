-- `points::changes::reset_count` meets its contract. Assumes nothing.
use Rattle.std.proofs.Common.{arith}
use Rattle.std.proofs.lemmas.Grind.{common_steps}
use Rattle.chars.proofs.PutLaws.{put-none}
use Rattle.model.specs.Scan.{counts}
use Rattle.model.specs.Inputs.{reset_count_of}
use Rattle.points.proofs.changes.reset_count.Goals as goal

pub returns-in_default-clause-fills : goal.returns-in_default-clause-fills
unfolding reset_count_of counts
returns-in_default-clause-fills c = grind (arith, put-none)

pub returns-then-has_accumulator-clause-fills : goal.returns-then-has_accumulator-clause-fills
unfolding reset_count_of counts
returns-then-has_accumulator-clause-fills c = grind (arith, common_steps)

pub returns-else-has_accumulator-clause-fills : goal.returns-else-has_accumulator-clause-fills
unfolding reset_count_of counts
returns-else-has_accumulator-clause-fills c = grind (arith, put-none)
