-- `clock::time_told` meets its contract.
use Rattle.std.proofs.Common.{arith}
use Rattle.std.proofs.lemmas.Grind.{common_steps}
use Rattle.model.specs.Ask.{good_time}
use Rattle.model.specs.Clock.{time_fits, digits_fit, time_in}
use Rattle.clock.proofs.time_told.Goals as goal

pub returns-in_default : goal.returns-in_default
unfolding good_time time_fits digits_fit time_in
returns-in_default c = grind (arith, common_steps)

pub returns-in_default-2 : goal.returns-in_default-2
unfolding good_time time_fits digits_fit time_in
returns-in_default-2 c = grind (arith, common_steps)

pub returns : goal.returns
unfolding good_time time_fits digits_fit time_in
returns c = grind (arith, common_steps)
