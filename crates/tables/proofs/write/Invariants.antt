use Rattle.std.proofs.Common.{◌≡◌, ◌+◌, ◌*◌}
use Rattle.chars.specs.Put.{part}
use Rattle.chars.specs.Gather.{Gathered}
use Rattle.model.specs.Tables.{word_in}
use Rattle.layout.specs.Unit.{unit_in}
use Rattle.tables.proofs.write.Given as goal

abbrev pub invariant-loop-number : goal.invariant-loop-number
invariant-loop-number l = (l.to ≡ l.at + 2 * l.number-index)
    × Gathered (word_in (unit_in l.unit).words) (part l.numbers 0 l.number-index) l.initial.reply l.at l.reply l.to
