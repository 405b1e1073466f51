-- `clock::clock_at` meets its contract: the quotients and remainders are the definition.
use Rattle.model.specs.Clock.{clock_at}
use mathlib.Core.Path.{refl}
use Rattle.clock.proofs.clock_at.Goals as goal

pub returns : goal.returns
unfolding clock_at
returns c = refl
