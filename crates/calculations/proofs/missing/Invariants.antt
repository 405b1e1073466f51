use Rattle.std.proofs.Common.{◌+◌, ◌≤◌}
use Rattle.chars.specs.Put.{part}
use Rattle.chars.specs.Gather.{Gathered}
use Rattle.model.specs.Limits.{reply_head}
use Rattle.model.specs.Calculations.{missing_of}
use Rattle.calculations.proofs.missing.Given as goal

abbrev pub invariant-loop-n : goal.invariant-loop-n
invariant-loop-n l = (l.to ≤ reply_head + l.n-index)
    × Gathered (missing_of l.table) (part l.ns 0 l.n-index) l.initial.reply reply_head l.reply l.to
