use Prim.Native.Nat.{◌%◌, ◌^◌}
use Rattle.chars.proofs.DownLaws.{Moved}
use Rattle.chars.proofs.rest.Given as goal

abbrev pub invariant-loop-k : goal.invariant-loop-k
invariant-loop-k l = Moved l.initial.a l.a l.to l.by l.at (l.n % 2 ^ l.k)
