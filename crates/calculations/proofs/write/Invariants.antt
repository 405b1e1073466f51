use Rattle.std.proofs.Common.{◌+◌, ◌*◌, ◌≤◌}
use Rattle.chars.specs.Gather.{Gathered, up_from}
use Rattle.model.specs.Limits.{reply_head}
use Rattle.model.specs.Calculations.{value_of}
use Rattle.layout.specs.Unit.{unit_in}
use Rattle.calculations.proofs.write.Given as goal

abbrev pub invariant-loop-k : goal.invariant-loop-k
invariant-loop-k l = (l.to ≤ reply_head + 4 * l.k)
    × Gathered (value_of l.table (unit_in l.unit).values) (up_from 0 l.k) l.initial.reply reply_head l.reply l.to
