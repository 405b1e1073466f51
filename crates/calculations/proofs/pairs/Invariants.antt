use Rattle.std.proofs.Common.{◌≡◌, ◌+◌, ◌*◌}
use Rattle.chars.specs.Put.{part}
use Rattle.chars.specs.Gather.{Gathered}
use Rattle.model.specs.Limits.{reply_head}
use Rattle.model.specs.Calculations.{pair_of}
use Rattle.layout.specs.Unit.{unit_in}
use Rattle.calculations.proofs.pairs.Given as goal

abbrev pub invariant-loop-n : goal.invariant-loop-n
invariant-loop-n l = (l.to ≡ reply_head + 5 * l.n-index)
    × Gathered (pair_of (unit_in l.unit).values) (part l.ns 0 l.n-index) l.initial.reply reply_head l.reply l.to
