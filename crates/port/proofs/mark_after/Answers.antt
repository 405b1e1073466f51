-- `port::mark_after` meets its contract. Assumes nothing.
use Rattle.std.proofs.Common.{arith}
use Rattle.std.proofs.lemmas.Grind.{common_steps}
use Rattle.model.specs.Port.{mark_after}
use Rattle.port.proofs.mark_after.Goals as goal

pub returns-then-is_answered : goal.returns-then-is_answered
unfolding mark_after
returns-then-is_answered c = grind (arith, common_steps)

pub returns-then-is_damaged : goal.returns-then-is_damaged
unfolding mark_after
returns-then-is_damaged c = grind (arith, common_steps)

pub returns-else-is_damaged : goal.returns-else-is_damaged
unfolding mark_after
returns-else-is_damaged c = grind (arith, common_steps)
