-- `checkword::reading::head` meets its contract: what does not fit in 64 places falls out.
-- Assumes nothing.
use mathlib.Core.Path.{ap, ◌∙◌}
use Prim.Native.Nat.{◌-◌, ◌*◌, ◌%◌, ◌^◌}
use native.Mathlib.Omega.{arith}
use Rattle.checkword.proofs.Line.{line-high}
use Rattle.checkword.proofs.reading.head.Goals as goal

pub returns : goal.returns
returns c =
    let a = c.args in
    ap (λ x. x * 2 ^ (64 - 8 * a.n) % 2 ^ 64) c.eight.ensures
    ∙ line-high a.s.now (λ i. (c.type_inv.s i).fits) a.n (omega arith) (omega arith)
