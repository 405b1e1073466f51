use Rattle.std.proofs.Common.{◌≡◌}
use Rattle.chars.specs.Gather.{gather, up_from}
use Rattle.model.specs.Tables.{table_area}
use Rattle.model.specs.Plans.{parts_of}
use Rattle.layout.specs.Unit.{unit_in, put_plans_at}
use Rattle.tables.proofs.plans.all_parts.Given as goal

abbrev pub invariant-loop-k : goal.invariant-loop-k
invariant-loop-k l = l.unit ≡ put_plans_at l.initial.unit 16 (gather (parts_of (table_area (unit_in l.initial.unit).fixed)) (up_from 0 l.k))
