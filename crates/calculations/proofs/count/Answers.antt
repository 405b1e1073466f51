-- `calculations::count` meets its contract. The invariant: four characters for each of the first k that was counted. Assumes nothing.
use Rattle.std.proofs.Common.{arith}
use Rattle.calculations.proofs.CalculationLaws.{count_none, count_more}
use Rattle.calculations.proofs.count.Goals as goal

pub loop-k-init : goal.loop-k-init
loop-k-init c = (omega arith, λ vs. count_none _ vs)

pub loop-k-preserved : goal.loop-k-preserved
loop-k-preserved c =
    let e = count_more _ _ _ c.has.result c.from-n.ensures c.has.ensures c.loop-k.invariant.1 in
    (omega (arith, e.0), e.1)
