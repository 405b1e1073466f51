-- `layout::write::pending_fits` meets its contract. Assumes nothing.
use Rattle.std.proofs.Common.{rules, tests}
use Rattle.model.specs.Fits.{write_fits}
use Rattle.layout.proofs.write.pending_fits.Goals as goal

pub returns-in-None : goal.returns-in-None
unfolding write_fits
returns-in-None c = rw c.in-None.is (search (rules, tests))

pub returns-then-master_fits : goal.returns-then-master_fits
unfolding write_fits
returns-then-master_fits c = rw c.in-Some.is (search (rules, tests))

pub returns-else-master_fits : goal.returns-else-master_fits
unfolding write_fits
returns-else-master_fits c = rw c.in-Some.is (search (rules, tests))
