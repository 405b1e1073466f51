-- `checkword::reading::several` meets its contract, by the numbers of its two ends.
-- Assumes nothing.
use mathlib.Core.Path.{◌≡◌, refl, sym, ap, ap₂, ◌∙◌}
use Prim.Native.Nat.{◌+◌, ◌-◌, ◌*◌, ◌/◌, ◌%◌, ◌^◌, ◌≤◌}
use native.Mathlib.Omega.{arith}
use lib.ListN.{length}
use lib.Pow.{shr_le, shl_exact}
use Rattle.checkword.proofs.Line.{line_lt, line-ends}
use Rattle.checkword.proofs.reading.several.Goals as goal

pub returns : goal.returns
returns c =
    let s = c.args.s.now in
    let b = c.from-2.result in
    let n = length s in
    let k = 64 - 8 * n in
    let less : b / 2 ^ k ≤ b = shr_le b k in
    let fits : b / 2 ^ k * 2 ^ 32 % 2 ^ 64 ≡ b / 2 ^ k * 2 ^ 32 = omega arith in
    ap (λ x. x * 2 ^ k % 2 ^ 64)
    (ap₂ ◌+◌ (c.from.ensures ∙ c.four.ensures) (fits ∙ ap (λ x. x / 2 ^ k * 2 ^ 32) (c.from-2.ensures ∙ c.four-2.ensures))
    ∙ sym (line-ends s (λ i. (c.type_inv.s i).fits) n refl (omega arith) (omega arith)))
    ∙ shl_exact (8 * n) k 64 (line_lt s (λ i. (c.type_inv.s i).fits)) (omega arith)
