-- `layout::select::master_fits` meets its contract: one comparison.
-- Assumes nothing.
use mathlib.Core.Path.{refl}
use Rattle.model.specs.Fits.{master_fits}
use Rattle.layout.proofs.select.master_fits.Goals as goal

pub returns : goal.returns
unfolding master_fits
returns c = refl
