use Rattle.std.specs.Prelude.{◌≡◌, ◌-◌, ◌≤◌}
use Rattle.chars.specs.Put.{part}
use Rattle.chars.specs.Gather.{every}
use Rattle.model.specs.Plans.{planned}
use Rattle.layout.specs.Unit.{unit_in}
use Rattle.layout.proofs.plans.plans_judged.Given as goal

abbrev pub invariant-loop-k : goal.invariant-loop-k
invariant-loop-k l = (l.k ≤ 16) × (l.all ≡ every planned (part (unit_in l.unit).plans 0 l.k))

abbrev pub decreases-loop-k : goal.decreases-loop-k
decreases-loop-k l = 16 - l.k
