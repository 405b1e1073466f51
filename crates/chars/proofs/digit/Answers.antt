-- `chars::digit` meets its contract, by what the digit counts.
use mathlib.Core.Path.{ap, ◌∙◌}
use Prim.Native.Nat.{◌+◌}
use native.Mathlib.Omega.{arith}
use Rattle.chars.specs.Put.{put, part}
use Rattle.chars.proofs.DownLaws.{moved_none, digit_one, digit_none}
use Rattle.chars.proofs.digit.Goals as goal

pub block-requires : goal.block-requires
block-requires c =
    let a = c.args in
    let d = digit_one a.n a.k (omega arith) c.if-n-k-eq1.true in
    omega (arith, d)

pub overflow_add-result : goal.overflow_add-result
overflow_add-result c =
    let a = c.args in
    let d = digit_one a.n a.k (omega arith) c.if-n-k-eq1.true in
    omega (arith, d)

pub returns-then-n-k-eq1 : goal.returns-then-n-k-eq1
returns-then-n-k-eq1 c =
    let a = c.args in
    let d = digit_one a.n a.k (omega arith) c.if-n-k-eq1.true in
    (ap (λ x. a.to + x) d.0, c.block.ensures ∙ ap (λ x. put a.a.now a.to (part a.a.now (a.to + a.by) x)) d.0)

pub returns : goal.returns
returns c =
    let a = c.args in
    let g = moved_none a.a.now a.to a.by _ (digit_none a.n a.k c.if-n-k-eq1.false) in
    (g.place, g.chars)
