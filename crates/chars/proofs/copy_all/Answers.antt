-- `chars::copy_all` meets its contract. The invariant of its loop: dst is dst₀ with i characters of src written over it.
use mathlib.Core.Path.{◌≡◌, sym}
use native.Mathlib.Omega.{arith}
use Rattle.chars.proofs.PutLaws.{copy_none, copy_more}
use Rattle.chars.proofs.copy_all.Goals as goal

pub loop-i-init : goal.loop-i-init
loop-i-init c = sym (copy_none _ _ _ _)

pub loop-i-preserved : goal.loop-i-preserved
loop-i-preserved c = rw c.loop-i.invariant (copy_more _ _ _ _ _ (omega arith))

pub returns : goal.returns
returns c = let e : c.loop-i.i ≡ c.args.n = omega arith in rw (← e) c.loop-i.invariant
