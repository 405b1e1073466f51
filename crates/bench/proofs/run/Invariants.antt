-- There are no more lines than steps, so their number never wraps.
use Rattle.std.proofs.Common.{◌≤◌}
use Rattle.bench.proofs.run.Given as goal

abbrev pub invariant-loop : goal.invariant-loop
invariant-loop g l = l.flow.number ≤ l.counter
