-- `checkword::past` meets its contract: from two characters on nothing reaches past them.
-- Assumes nothing.
use mathlib.Core.Path.{◌≡◌, refl, sym}
use native.Mathlib.Omega.{arith}
use Rattle.checkword.proofs.Eights.{none-past}
use Rattle.checkword.proofs.past.Goals as goal

pub returns-then-n-eq1 : goal.returns-then-n-eq1
returns-then-n-eq1 c = let e : c.args.n ≡ 1 = omega arith in rw e refl

pub returns : goal.returns
returns c = sym (none-past c.args.start c.args.n (omega arith) (omega arith))
