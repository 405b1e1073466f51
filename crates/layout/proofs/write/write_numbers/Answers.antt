-- `layout::write::write_numbers` meets its contract. Assumes nothing.
use Rattle.std.proofs.Common.{arith, refl}
use Rattle.layout.specs.Numbers.{write_numbers, write_in}
use Rattle.layout.proofs.NumbersLaws.{waits_back}
use Rattle.layout.proofs.write.write_numbers.Goals as goal

pub returns-in-None : goal.returns-in-None
unfolding write_numbers write_in
returns-in-None c = rw c.in-None.is (refl, refl)

pub returns-in-Some : goal.returns-in-Some
returns-in-Some c = waits_back c.in-Some.is (c.from.ensures, omega arith) (c.from-in-Some.ensures, omega arith)
