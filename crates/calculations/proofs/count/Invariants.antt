use Rattle.std.proofs.Common.{◌≡◌, ℕ, ◌*◌, ◌≤◌, List, length}
use Rattle.chars.specs.Gather.{gather, up_from}
use Rattle.model.specs.Calculations.{value_of}
use Rattle.calculations.proofs.count.Given as goal

abbrev pub invariant-loop-k : goal.invariant-loop-k
invariant-loop-k l = (l.n ≤ l.k) × ((values : List ℕ) → 4 * l.n ≡ length (gather (value_of l.table values) (up_from 0 l.k)))
