-- `blocks::waits_after` meets its contract.
use Rattle.std.proofs.Common.{arith}
use Rattle.std.proofs.lemmas.Grind.{common_steps}
use Rattle.model.specs.Control.{aged_of}
use Rattle.model.specs.Blocks.{waits_after}
use Rattle.blocks.proofs.waits_after.Goals as goal

pub returns-in_err-w : goal.returns-in_err-w
unfolding waits_after aged_of
returns-in_err-w c = grind (arith, common_steps)

pub returns-in_err-age : goal.returns-in_err-age
unfolding waits_after aged_of
returns-in_err-age c = grind (arith, common_steps)

pub returns : goal.returns
unfolding waits_after aged_of
returns c = grind (arith, common_steps)
