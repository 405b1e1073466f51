-- `frames::unit_of` meets its contract: the code computes as the definition does.
-- Assumes nothing.
use mathlib.Core.Path.{refl}
use Rattle.model.specs.Frame.{unit_of}
use Rattle.frames.proofs.unit_of.Goals as goal

pub returns : goal.returns
unfolding unit_of
returns c = refl
