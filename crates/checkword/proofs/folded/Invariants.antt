use Prim.Native.Nat.{◌+◌, ◌*◌}
use Rattle.checkword.proofs.Eights.{Read}
use Rattle.checkword.proofs.folded.Given as goal

abbrev pub invariant-loop-k : goal.invariant-loop-k
invariant-loop-k l = Read l.start l.s (l.n + 8 * l.k) l.v l.a
