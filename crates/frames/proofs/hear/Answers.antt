-- `frames::hear` meets its contract. Assumes nothing.
use Rattle.std.proofs.Common.{arith}
use Rattle.std.proofs.lemmas.Grind.{common_steps}
use Rattle.model.specs.Frame.{heard_of}
use Rattle.frames.proofs.HearLaws.{pair_parts, pair-long}
use Rattle.frames.proofs.hear.Goals as goal

pub returns-then-is_checked : goal.returns-then-is_checked
unfolding heard_of
returns-then-is_checked c = grind (arith, common_steps)

pub returns-then-is_whole : goal.returns-then-is_whole
unfolding heard_of
returns-then-is_whole c = grind (arith, common_steps)

pub split_at-requires : goal.split_at-requires
split_at-requires c = grind (arith, common_steps, pair-long)

pub head_in-requires-then-is_pair : goal.head_in-requires-then-is_pair
head_in-requires-then-is_pair c = grind (arith, common_steps, pair_parts)

pub head_in-requires-then-is_pair-2 : goal.head_in-requires-then-is_pair-2
head_in-requires-then-is_pair-2 c = grind (arith, common_steps, pair_parts)

pub returns-then-is_pair : goal.returns-then-is_pair
unfolding heard_of
returns-then-is_pair c = grind (arith, common_steps)

pub returns : goal.returns
unfolding heard_of
returns c = grind (arith, common_steps)
