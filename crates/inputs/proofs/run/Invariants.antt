use Rattle.std.proofs.Common.{◌+◌, ◌*◌, ◌≤◌}
use Rattle.chars.specs.Gather.{Gathered, up_from}
use Rattle.model.specs.Inputs.{word_of}
use Rattle.layout.specs.Unit.{unit_in, config_in}
use Rattle.inputs.proofs.run.Given as goal

abbrev pub invariant-loop-k : goal.invariant-loop-k
invariant-loop-k l = (l.to ≤ l.at + 2 * l.k)
    × Gathered (word_of (config_in l.unit).inputs (unit_in l.unit).words) (up_from l.from l.k) l.initial.reply l.at l.reply l.to
