use Prim.Native.Nat.{◌+◌, ◌*◌}
use Rattle.chars.proofs.DownLaws.{Moved}
use Rattle.chars.proofs.blocks.Given as goal

abbrev pub invariant-loop-i : goal.invariant-loop-i
invariant-loop-i l = Moved l.initial.a l.a l.to l.by (l.to + 64 * l.i) (64 * l.i)
