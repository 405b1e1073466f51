-- `serve::ending::settle` meets its contract: the write, then bit 2. Assumes nothing.
use Rattle.model.specs.Step.{settled}
use Rattle.layout.proofs.NumbersLaws.{written-readable}
use Rattle.layout.proofs.UnitLaws.{numbers_on}
use Rattle.serve.proofs.ending.settle.Goals as goal

pub returns : goal.returns
unfolding settled
returns c = (
  λ stands.
      let written = c.settle_write.ensures.0 stands in
      rw (written.means.core, written.means.memory, written.means.port) at (c.settle_broadcast.ensures.0 (written-readable written)),
  numbers_on _ _ _ c.settle_write.ensures.1 c.settle_broadcast.ensures.1,
)
