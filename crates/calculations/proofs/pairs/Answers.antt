-- `calculations::pairs` meets its contract. The invariant: number and value of the first are gathered. Assumes nothing.
use Rattle.std.proofs.Common.{◌≡◌, ◌<◌, length, arith}
use Rattle.chars.proofs.PutLaws.{part_none, part-whole, front_more}
use Rattle.chars.proofs.WordLaws.{length-value}
use Rattle.chars.proofs.GatherLaws.{gathered_none, gathered_more}
use Rattle.calculations.proofs.CalculationLaws.{put-pair, pair_of_lem}
use Rattle.calculations.proofs.pairs.Goals as goal

pub loop-n-init : goal.loop-n-init
loop-n-init c = (omega arith, rw part_none (gathered_none _ _ _))

pub loop-n-preserved : goal.loop-n-preserved
loop-n-preserved c =
    let k : c.loop-n.n-index < length c.args.ns.now = omega arith in (
      omega arith,
      rw front_more (gathered_more c.loop-n.invariant.1 _ _ _ _ (pair_of_lem _ _ c.value_of.ensures) (put-pair _ _ _ _ _ c.put_value.ensures) (rw length-value)),
    )

pub returns-clause-gathered : goal.returns-clause-gathered
returns-clause-gathered c =
    let e : c.loop-n.n-index ≡ length c.args.ns.now = omega arith in
    rw (part-whole _ _ e) at c.loop-n.invariant.1
