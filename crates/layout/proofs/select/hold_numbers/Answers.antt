-- `layout::select::hold_numbers` meets its contract. Assumes nothing.
use Rattle.std.proofs.Common.{arith, refl}
use Rattle.layout.specs.Numbers.{hold_numbers, hold_in}
use Rattle.layout.proofs.NumbersLaws.{bit_told, held_back, timed_out_back}
use Rattle.layout.proofs.select.hold_numbers.Goals as goal

pub returns-in-Free : goal.returns-in-Free
unfolding hold_numbers hold_in
returns-in-Free c = rw c.in-Free.is (refl, refl)

pub returns-in-Held : goal.returns-in-Held
returns-in-Held c = held_back c.in-Held.is (c.from.ensures, omega arith) (c.from-in-Held.ensures, omega arith) (bit_told c.from-in-Held-2.ensures)

pub returns-in-TimedOut : goal.returns-in-TimedOut
returns-in-TimedOut c = timed_out_back c.in-TimedOut.is (c.from-in-TimedOut.ensures, omega arith)
