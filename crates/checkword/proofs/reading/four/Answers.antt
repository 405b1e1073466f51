-- `checkword::reading::four` meets its contract: std puts the characters together as they stand on the line.
-- Assumes nothing.
use mathlib.Core.Path.{◌∙◌}
use native.Mathlib.Omega.{arith}
use Rattle.checkword.proofs.Line.{line_four}
use Rattle.checkword.proofs.reading.four.Goals as goal

pub returns : goal.returns
returns c =
    let a = c.args in
    let read = rw c.unwrap.ensures at c.try_into.ensures.1 in
    c.from_le_bytes.ensures ∙ line_four a.s.now (λ i. (c.type_inv.s i).fits) a.i _ (omega arith) read.same
