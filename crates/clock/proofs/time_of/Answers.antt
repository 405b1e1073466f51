-- `clock::time_of` meets its contract: the sum is the definition, and every clock's time is below ten million million.
use Rattle.std.proofs.Common.{arith}
use Rattle.model.specs.Clock.{time_of}
use Rattle.clock.proofs.time_of.Goals as goal

pub returns : goal.returns
unfolding time_of
returns c = (omega arith, omega arith)
