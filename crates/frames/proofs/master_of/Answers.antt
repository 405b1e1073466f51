-- `frames::master_of` meets its contract: the code computes as the definition does.
-- Assumes nothing.
use mathlib.Core.Path.{refl}
use Rattle.model.specs.Frame.{master_of}
use Rattle.frames.proofs.master_of.Goals as goal

pub returns : goal.returns
unfolding master_of
returns c = refl
