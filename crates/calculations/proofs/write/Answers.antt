-- `calculations::write` meets its contract. The invariant: the values of the first k are gathered. Assumes nothing.
use Rattle.std.proofs.Common.{sym, ◌∙◌, arith}
use Rattle.chars.proofs.WordLaws.{length-value}
use Rattle.chars.proofs.GatherLaws.{up_none, up_next, gathered_none, gathered_more, gathered_same}
use Rattle.calculations.proofs.CalculationLaws.{value_taken, value-left}
use Rattle.calculations.proofs.write.Goals as goal
use Rattle.calculations.proofs.write.Goals.{then-has, else-has}

pub loop-k-init : goal.loop-k-init
loop-k-init c = (omega arith, rw up_none (gathered_none _ _ _))

pub loop-k-preserved : goal.loop-k-preserved
loop-k-preserved c =
    let g = c.loop-k.invariant.1 in
    let h = sym c.has.ensures in
    elim c.if-has.branch [
      | then-has w ↦ (
        omega arith,
        rw up_next (gathered_more g _ _ _ _ (value_taken _ _ _ (h ∙ w.if-has.true) w.value_of.ensures) (w.reply-is ∙ w.put_value.ensures) (rw length-value w.to-is)),
      )
      | else-has w ↦ (omega arith, rw up_next (gathered_same g _ _ _ (value-left _ _ _ (h ∙ w.if-has.false)) w.reply-is w.to-is))
    ]
