use mathlib.Core.Path.{◌≡◌}
use Prim.Native.Nat.{◌-◌, ◌*◌, ◌^◌}
use Rattle.chars.specs.Put.{part}
use Rattle.checkword.specs.Line.{line}
use Rattle.checkword.proofs.reading.few.Given as goal

abbrev pub invariant-loop-c : goal.invariant-loop-c
invariant-loop-c l = l.v ≡ line (part l.s 0 l.c-index) * 2 ^ (64 - 8 * l.c-index)
