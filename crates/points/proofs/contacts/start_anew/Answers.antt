-- `points::contacts::start_anew` meets its contract. Assumes nothing.
use Rattle.std.proofs.Common.{arith}
use Rattle.std.proofs.lemmas.Grind.{common_steps}
use Rattle.layout.proofs.ContactLaws.{anew-none, anew-one}
use Rattle.model.specs.Config.{two_bit}
use Rattle.model.specs.Contacts.{group_in}
use Rattle.layout.proofs.UnitLaws.{unit-long}
use Rattle.points.proofs.contacts.start_anew.Goals as goal

pub returns-else-number-lt32 : goal.returns-else-number-lt32
unfolding group_in two_bit
returns-else-number-lt32 c = grind (arith, anew-none)

pub returns-then-has_input : goal.returns-then-has_input
unfolding group_in two_bit
returns-then-has_input c = grind (arith, common_steps, unit-long, anew-one)
