-- `checkword::turn` meets its contract: 64 places are the sum of 8 and 4.
-- Assumes nothing.
use native.Mathlib.Omega.{arith}
use Rattle.checkword.proofs.Folding.{turn-alike}
use Rattle.checkword.proofs.turn.Goals as goal

pub returns : goal.returns
returns c = turn-alike c.args.v c.fold-y.result (omega arith) c.fold-y.ensures
