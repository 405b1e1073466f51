-- `layout::status::bits_stand` meets its contract: three comparisons.
-- Assumes nothing.
use Rattle.layout.specs.Judged.{bits_judged}
use Rattle.layout.proofs.status.bits_stand.Goals as goal

pub returns : goal.returns
unfolding bits_judged
returns c = rw (c.kept_of.ensures, c.kept_of-2.ensures, c.kept_of-3.ensures)
