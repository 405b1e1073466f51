-- `clock::from_bcd` meets its contract: the sum is the definition.
use Rattle.model.specs.Clock.{from_bcd}
use mathlib.Core.Path.{refl}
use Rattle.clock.proofs.from_bcd.Goals as goal

pub returns : goal.returns
unfolding from_bcd
returns c = refl
