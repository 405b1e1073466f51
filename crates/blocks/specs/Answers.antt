-- What WRITE and EXECUTE answer, held to what they come to.
use Rattle.std.specs.Prelude.{◌≡◌, ℕ, List}
use Rattle.model.specs.Blocks as model
use Rattle.layout.specs.Unit.{put_fixed}
use Rattle.blocks.specs.declared.Written.{Written}
use Rattle.blocks.specs.declared.Executed.{Executed}

-- the answer to a WRITE that came to m
pub record WritesAs (m : model.WriteResult) (r : Written) : Type 0 where
  pub ended : r.outcome ≡ m.says.outcome
  pub waiting : r.write ≡ m.write

-- the answer to an EXECUTE that came to m over a unit's memory u, with that memory and the block as it left them
pub record ExecutesAs (u : List ℕ) (m : model.Executed) (v block : List ℕ) (r : Executed) : Type 0 where
  pub ended : r.outcome ≡ m.says.outcome
  pub configured : r.configures ≡ m.configures
  pub cleared : r.clears ≡ m.clears
  pub left : v ≡ put_fixed u 0 m.fixed
  pub block-left : block ≡ m.block
