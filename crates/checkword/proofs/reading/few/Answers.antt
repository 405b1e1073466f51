-- `checkword::reading::few` meets its contract. The loop's invariant: the characters so far are in the high places.
-- Assumes nothing.
use mathlib.Core.Path.{◌≡◌, refl, ap, ap₂, ◌∙◌}
use Prim.Native.Nat.{◌+◌, ◌-◌, ◌*◌, ◌/◌, ◌%◌, ◌^◌}
use native.Mathlib.Omega.{arith}
use lib.ListN.{length}
use Rattle.chars.specs.Put.{part}
use Rattle.chars.proofs.PutLaws.{part-whole}
use Rattle.checkword.specs.Line.{line}
use Rattle.checkword.proofs.Line.{line_top}
use Rattle.checkword.proofs.reading.few.Goals as goal

pub loop-c-init : goal.loop-c-init
unfolding line part
loop-c-init c = refl

pub overflow_add-v : goal.overflow_add-v
overflow_add-v c = omega (arith, (c.type_inv.s c.loop-c.c-index).fits, c.from.ensures)

pub loop-c-preserved : goal.loop-c-preserved
loop-c-preserved c =
    let s = c.args.s.now in
    let l = c.loop-c in
    let top : c.from.result * 2 ^ 56 % 2 ^ 64 ≡ 2 ^ 56 * c.from.result = omega (arith, (c.type_inv.s l.c-index).fits, c.from.ensures) in
    ap (λ x. l.v / 256 + x) (top ∙ ap (λ x. 2 ^ 56 * x) c.from.ensures)
    ∙ line_top s (λ i. (c.type_inv.s i).fits) l.c-index l.v (omega arith) (omega arith) l.invariant

pub returns : goal.returns
returns c =
    let s = c.args.s.now in
    let l = c.loop-c in
    let e : l.c-index ≡ length s = omega arith in
    l.invariant ∙ ap₂ (λ x k. line x * 2 ^ (64 - 8 * k)) (part-whole s l.c-index e) e
