-- `control::held_after` meets its contract.
use Rattle.std.proofs.Common.{arith}
use Rattle.std.proofs.lemmas.Grind.{common_steps}
use Rattle.model.specs.Control.{held_after, aged_of}
use Rattle.control.proofs.held_after.Goals as goal

pub returns-in-Free : goal.returns-in-Free
unfolding held_after
returns-in-Free c = grind (arith, common_steps)

pub returns-in-Some : goal.returns-in-Some
unfolding held_after aged_of
returns-in-Some c = grind (arith, common_steps)

pub returns-in-None : goal.returns-in-None
unfolding held_after aged_of
returns-in-None c = grind (arith, common_steps)
