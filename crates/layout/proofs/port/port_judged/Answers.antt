-- `layout::port::port_judged` meets its contract: two comparisons.
-- Assumes nothing.
use Rattle.model.specs.Fits.{port_fits}
use Rattle.layout.specs.Numbers.{port_in}
use Rattle.layout.specs.Judged.{port_judged}
use Rattle.layout.proofs.port.port_judged.Goals as goal

pub returns : goal.returns
unfolding port_judged port_fits port_in
returns c = rw (c.kept_of.ensures, c.kept_of-2.ensures)
