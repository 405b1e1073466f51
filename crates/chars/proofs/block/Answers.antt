-- `chars::block` meets its contract: what stands in t is what was read.
use native.Mathlib.Omega.{arith}
use Rattle.chars.proofs.DownLaws.{through}
use Rattle.chars.proofs.block.Goals as goal

pub returns : goal.returns
returns c =
    through _ _ _ _ _ _ _ (omega arith) (omega arith) c.copy_all.ensures c.copy_all-2.ensures
