-- `port::waited` meets its contract. Assumes nothing.
use Rattle.std.proofs.Common.{arith}
use Rattle.std.proofs.lemmas.Grind.{common_steps}
use Rattle.model.specs.Port.{silent_after}
use Rattle.port.proofs.waited.Goals as goal

pub returns : goal.returns
unfolding silent_after
returns c = grind (arith, common_steps)
