use mathlib.Core.Path.{◌≡◌}
use Prim.Native.Nat.{◌≤◌}
use lib.ListN.{drop}
use Rattle.lines.specs.Line.{time_from, time_said}
use Rattle.lines.proofs.read_time.Given as goal

abbrev pub invariant-loop-digit : goal.invariant-loop-digit
invariant-loop-digit l = (time_from l.time (drop l.digit-index l.digits) ≡ time_said l.digits) × (l.time ≤ 4294967295)
