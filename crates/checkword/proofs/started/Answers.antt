-- `checkword::started` meets its contract: what reaches past the characters is put in as three others.
-- Assumes nothing.
use mathlib.Core.Path.{◌∙◌}
use native.Mathlib.Omega.{arith}
use Rattle.checkword.proofs.Eights.{start_fits, start_wide}
use Rattle.checkword.proofs.started.Goals as goal

pub returns-then-start-gt255 : goal.returns-then-start-gt255
returns-then-start-gt255 c =
    let a = c.args in
    rw c.from.ensures (start_wide a.start a.x a.n c.from-c.result (omega arith) (omega arith) (omega arith) (c.from-c.ensures ∙ c.past.ensures))

pub returns : goal.returns
returns c =
    let a = c.args in
    rw c.from.ensures (start_fits a.start a.x a.n (omega arith) (omega arith) (omega arith))
