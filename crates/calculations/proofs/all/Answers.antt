-- `calculations::all` meets its contract. Assumes nothing.
use Rattle.std.proofs.Common.{refl}
use Rattle.model.specs.declared.Outcome.TheVariants.{Done, TooLong}
use Rattle.points.proofs.AnswerLaws.{fills_refused, fills_gathered}
use Rattle.calculations.proofs.CalculationLaws.{all-long, all_done}
use Rattle.calculations.proofs.all.Goals as goal

pub returns-then-count-gt127 : goal.returns-then-count-gt127
returns-then-count-gt127 c =
    fills_refused TooLong (all-long _ _ _ (c.count.ensures _) c.if-count-gt127.true) c.refused.ensures refl

pub returns : goal.returns
returns c =
    fills_gathered Done c.write-end.ensures.gathered (all_done _ _ _ (c.count.ensures _) c.if-count-gt127.false) c.filled.ensures
