use mathlib.Core.Path.{◌≡◌}
use Rattle.chars.specs.Gather.{every, up_from}
use Rattle.master.proofs.PlacedLaws.{Placed, Judged}
use Rattle.master.proofs.values.tells_values.Given as goal

abbrev pub invariant-loop-i : goal.invariant-loop-i
invariant-loop-i l = record { told : l.told ≡ every (Judged l.ns l.ys) (up_from 0 l.i); placed : Placed l.ns l.i l.places }
