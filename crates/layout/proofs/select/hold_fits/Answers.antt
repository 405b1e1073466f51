-- `layout::select::hold_fits` meets its contract. Assumes nothing.
use Rattle.std.proofs.Common.{rules, tests}
use Rattle.model.specs.Fits.{hold_fits}
use Rattle.layout.proofs.select.hold_fits.Goals as goal

pub returns-in-Free : goal.returns-in-Free
unfolding hold_fits
returns-in-Free c = rw c.in-Free.is (search (rules, tests))

pub returns-then-has_output : goal.returns-then-has_output
unfolding hold_fits
returns-then-has_output c = rw c.in-Held.is (search (rules, tests))

pub returns-else-has_output : goal.returns-else-has_output
unfolding hold_fits
returns-else-has_output c = rw c.in-Held.is (search (rules, tests))

pub returns-in-TimedOut : goal.returns-in-TimedOut
unfolding hold_fits
returns-in-TimedOut c = rw c.in-TimedOut.is (search (rules, tests))
