use mathlib.Core.Path.{◌≡◌}
use mathlib.Core.Bool.{◌||◌}
use lib.ListN.{take}
use lib.Dec.{ltb}
use Rattle.chars.specs.Gather.{every}
use Rattle.model.specs.Believe as definition
use Rattle.master.proofs.ValuesLaws.{Ordered}
use Rattle.master.proofs.values.misses.Given as goal

abbrev pub invariant-loop-n : goal.invariant-loop-n
invariant-loop-n l = record { told : Ordered l.ns l.ys l.told l.at l.n-index; all : l.all ≡ every (λ n. ltb n 128 || definition.stands n l.ys) (take l.n-index l.ns) }
