-- `calculations::missing` meets its contract. The invariant: those of the first that are missing are gathered. Assumes nothing.
use Rattle.std.proofs.Common.{◌≡◌, ◌<◌, length, sym, ◌∙◌, arith}
use Rattle.chars.proofs.PutLaws.{part_none, part-whole, front_more, put_one}
use Rattle.chars.proofs.GatherLaws.{gathered_none, gathered_more, gathered_same}
use Rattle.calculations.proofs.CalculationLaws.{missing-taken, missing-left}
use Rattle.calculations.proofs.missing.Goals as goal
use Rattle.calculations.proofs.missing.Goals.{then-not-has, else-not-has}

pub loop-n-init : goal.loop-n-init
loop-n-init c = (omega arith, rw part_none (gathered_none _ _ _))

pub loop-n-preserved : goal.loop-n-preserved
loop-n-preserved c =
    let g = c.loop-n.invariant.1 in
    let h = sym c.has.ensures in
    let k : c.loop-n.n-index < length c.args.ns.now = omega arith in
    elim c.if-not-has.branch [
      | then-not-has w ↦ (
        omega arith,
        rw front_more (gathered_more g _ _ _ _ (missing-taken _ _ (h ∙ w.if-not-has.true)) (w.reply-is ∙ sym (put_one _ _ _)) w.to-is),
      )
      | else-not-has w ↦ (omega arith, rw front_more (gathered_same g _ _ _ (missing-left _ _ (h ∙ w.if-not-has.false)) w.reply-is w.to-is))
    ]

pub returns-clause-gathered : goal.returns-clause-gathered
returns-clause-gathered c =
    let e : c.loop-n.n-index ≡ length c.args.ns.now = omega arith in
    rw (part-whole _ _ e) at c.loop-n.invariant.1
