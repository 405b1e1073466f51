use Rattle.tables.proofs.PlannedLaws.{Outcomes}
use Rattle.tables.proofs.plans.outcomes.Given as goal

abbrev pub invariant-loop-k : goal.invariant-loop-k
invariant-loop-k l = Outcomes l.area l.able l.k l.initial.plans l.plans
