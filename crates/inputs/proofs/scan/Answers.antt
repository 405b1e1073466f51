-- `inputs::scan` meets its contract. Assumes nothing.
use Rattle.std.proofs.Common.{arith}
use Rattle.std.proofs.lemmas.Grind.{common_steps}
use Rattle.chars.proofs.PutLaws.{put-none}
use Rattle.model.specs.Scan.{counts, with_no_data, in_room}
use Rattle.model.specs.Inputs.{inputs_of}
use Rattle.inputs.proofs.scan.Goals as goal

pub returns-then-reply-lt-LONGEST : goal.returns-then-reply-lt-LONGEST
unfolding in_room
returns-then-reply-lt-LONGEST c = grind (arith, put-none)

pub returns-then-not-is_unreserved : goal.returns-then-not-is_unreserved
unfolding in_room inputs_of
returns-then-not-is_unreserved c = grind (arith, put-none)

pub returns-then-not-is_empty : goal.returns-then-not-is_empty
unfolding in_room inputs_of with_no_data counts
returns-then-not-is_empty c = grind (arith, put-none)

pub returns : goal.returns
unfolding in_room inputs_of with_no_data counts
returns c = grind (arith, common_steps)
