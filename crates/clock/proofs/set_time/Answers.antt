-- `clock::set_time` meets its contract.
use Rattle.std.proofs.Common.{arith}
use Rattle.std.proofs.lemmas.Grind.{common_steps}
use Rattle.model.specs.Ask.{good_time}
use Rattle.model.specs.Scan.{counts}
use Rattle.model.specs.Clock.{set_time_of, time_fits, digits_fit, time_in}
use Rattle.clock.proofs.set_time.Goals as goal

pub returns-then-body-ne7 : goal.returns-then-body-ne7
unfolding set_time_of counts good_time time_fits digits_fit time_in
returns-then-body-ne7 c = grind (arith, common_steps)

pub returns-in-Some : goal.returns-in-Some
unfolding set_time_of counts good_time time_fits digits_fit time_in
returns-in-Some c = grind (arith, common_steps)

pub returns-in_default : goal.returns-in_default
unfolding set_time_of counts good_time time_fits digits_fit time_in
returns-in_default c = grind (arith, common_steps)

pub returns-in_default-2 : goal.returns-in_default-2
unfolding set_time_of counts good_time time_fits digits_fit time_in
returns-in_default-2 c = grind (arith, common_steps)
