-- `tables::by_plan::planned_scan` meets its contract. Assumes nothing.
use Rattle.std.proofs.Common.{refl, ◌∙◌, arith}
use Rattle.model.specs.declared.Outcome.TheVariants.{NotValid, TooLong}
use Rattle.points.proofs.AnswerLaws.{fills_refused, fills_as}
use Rattle.tables.proofs.PlannedLaws.{plan_told, plan_long, plan_not-valid}
use Rattle.tables.proofs.by_plan.planned_scan.Goals as goal

pub returns-then-outcome-from : goal.returns-then-outcome-from
returns-then-outcome-from c =
    rw (← c.plans_of-plans.ensures) (fills_as (plan_told _ _ _ c.args.k.value (c.if-outcome-from.true ∙ c.from.ensures) (omega arith)) c.told.ensures)

pub returns-then-outcome-from-2 : goal.returns-then-outcome-from-2
returns-then-outcome-from-2 c =
    let z = rw c.from.ensures at c.if-outcome-from.false in
    rw (← c.plans_of-plans.ensures) (fills_refused TooLong (plan_long _ _ _ c.args.k.value z (c.if-outcome-from-2.true ∙ c.from-else-outcome-from.ensures) (omega arith)) c.refused.ensures refl)

pub returns-else-outcome-from-2 : goal.returns-else-outcome-from-2
returns-else-outcome-from-2 c =
    let z = rw c.from.ensures at c.if-outcome-from.false in
    let n = rw c.from-else-outcome-from.ensures at c.if-outcome-from-2.false in
    rw (← c.plans_of-plans.ensures) (fills_refused NotValid (plan_not-valid _ _ _ c.args.k.value z n (omega arith)) c.refused-else-outcome-from-2.ensures refl)
