use Rattle.std.proofs.Common.{◌≡◌, ◌≤◌, max, length}
use Rattle.model.specs.Tables.{start_of}
use Rattle.tables.specs.Walked.{area_long, Passed}
use Rattle.tables.proofs.walk.Given as goal

abbrev pub invariant-loop-k : goal.invariant-loop-k
invariant-loop-k l = (l.next ≡ start_of l.area l.k) × (l.next ≤ area_long) × Passed l.area l.starts l.k
    × (l.k ≤ max l.from l.to) × (length l.starts ≡ 16)
