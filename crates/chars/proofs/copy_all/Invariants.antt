use mathlib.Core.Path.{◌≡◌}
use Rattle.chars.specs.Put.{put, part}
use Rattle.chars.proofs.copy_all.Given as goal

abbrev pub invariant-loop-i : goal.invariant-loop-i
invariant-loop-i l = l.dst ≡ put l.initial.dst l.at (part l.src l.from l.i)
