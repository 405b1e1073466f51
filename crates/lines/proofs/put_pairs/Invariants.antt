use mathlib.Core.Path.{◌≡◌}
use Rattle.chars.specs.Put.{put, part}
use Rattle.lines.specs.Line.{pairs}
use Rattle.lines.proofs.put_pairs.Given as goal

abbrev pub invariant-loop-i : goal.invariant-loop-i
invariant-loop-i l = l.out ≡ put l.initial.out 0 (part (pairs l.digits) 0 l.i)
