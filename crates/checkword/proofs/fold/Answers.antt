-- `checkword::fold` meets its contract: shifts of a word of 64 places.
-- Assumes nothing.
use mathlib.Core.Path.{refl}
use native.Mathlib.Omega.{arith}
use Rattle.checkword.proofs.Folding.{fold_is}
use Rattle.checkword.proofs.fold.Goals as goal

pub returns : goal.returns
returns c = let a = c.args in fold_is a.n (omega arith) (omega arith) a.v _ (omega arith) refl
