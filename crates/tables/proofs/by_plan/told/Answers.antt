-- `tables::by_plan::told` meets its contract. Three parts in turn, each in what is left. Assumes nothing.
use Rattle.std.proofs.Common.{List, ℕ, ap, arith}
use Rattle.chars.specs.Gather.{gather}
use Rattle.chars.proofs.GatherLaws.{gathered_join}
use Rattle.model.specs.Scan.{tells}
use Rattle.model.specs.Tables.{word_in}
use Rattle.model.specs.declared.Outcome.TheVariants.{Done}
use Rattle.layout.specs.Unit.{unit_in}
use Rattle.points.proofs.AnswerLaws.{fills_gathered}
use Rattle.tables.proofs.PlannedLaws.{numbers-told}
use Rattle.tables.proofs.by_plan.told.Goals as goal

pub returns : goal.returns
returns c =
    let one = c.tell-a.ensures in
    let two = c.tell-b.ensures in
    let own = c.tell-c.ensures in
    fills_gathered Done (gathered_join one.gathered (gathered_join two.gathered own.gathered))
    (ap (λ (ns : List ℕ). tells (gather (word_in (unit_in c.args.unit.now).words) ns)) (numbers-told _ _ _ _ (omega arith) one.gathered one.lower_bound.1 two.gathered two.lower_bound.1)) c.done.ensures
