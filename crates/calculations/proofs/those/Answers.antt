-- `calculations::those` meets its contract. Assumes nothing.
use Rattle.chars.proofs.GatherLaws.{gathered_from, gathered_nothing, gathered_unchanged, gathered_some}
use Rattle.model.specs.declared.Outcome.TheVariants.{Done, NotValid, TooLong}
use Rattle.points.proofs.AnswerLaws.{fills_refused, fills_gathered}
use Rattle.calculations.proofs.CalculationLaws.{asked-missing, asked-long, asked-done}
use Rattle.calculations.proofs.those.Goals as goal

pub returns-then-end-ne-HEAD : goal.returns-then-end-ne-HEAD
returns-then-end-ne-HEAD c =
    let g = c.missing-end.ensures.gathered in
    fills_gathered NotValid g (asked-missing _ _ _ (gathered_some g c.if-end-ne-HEAD.true)) c.filled.ensures

pub returns-then-ns-gt102 : goal.returns-then-ns-gt102
returns-then-ns-gt102 c =
    let g = c.missing-end.ensures.gathered in
    fills_refused TooLong (asked-long _ _ _ (gathered_nothing g c.if-end-ne-HEAD.false) c.if-ns-gt102.true) c.refused.ensures (gathered_unchanged g c.if-end-ne-HEAD.false)

pub returns : goal.returns
returns c =
    let g = c.missing-end.ensures.gathered in
    fills_gathered Done (gathered_from c.pairs-last.ensures.gathered (gathered_unchanged g c.if-end-ne-HEAD.false))
    (asked-done _ _ _ (gathered_nothing g c.if-end-ne-HEAD.false) c.if-ns-gt102.false) c.filled-2.ensures
