-- `tables::plans::replan` meets its contract. Assumes nothing.
use Rattle.std.proofs.Common.{sym, ◌∙◌, arith}
use Rattle.model.specs.Tables.{table_area}
use Rattle.tables.proofs.TableLaws.{start_none}
use Rattle.tables.proofs.WalkLaws.{passed_none}
use Rattle.tables.proofs.PlannedLaws.{tables_left, plans-joined, passed_same, outcomes_same}
use Rattle.tables.proofs.plans.replan.Goals as goal

pub walk-requires-clause-s_value : goal.walk-requires-clause-s_value
walk-requires-clause-s_value c = (sym (start_none _), omega arith, passed_none _ 16 (omega arith))

pub all_parts-requires : goal.all_parts-requires
unfolding table_area
all_parts-requires c =
    let area = tables_left _ 0 _ (omega arith) c.put_plans.ensures in
    passed_same (area ∙ search sym) c.walk.ensures.passed

pub returns : goal.returns
unfolding table_area
returns c =
    plans-joined c.args.unit.now _ (outcomes_same _ (search sym) (c.outcomes-outcomes.ensures _ c.judge-able.ensures)) c.put_plans.ensures c.all_parts.ensures
