-- `serve::commands::forget` meets its contract. Assumes nothing.
use Rattle.model.specs.Step.{restarted}
use Rattle.layout.proofs.NumbersLaws.{readable-written}
use Rattle.layout.proofs.PlaceLaws.{hold-written, write-written, configure_written, memory-written}
use Rattle.layout.proofs.UnitLaws.{numbers-left, numbers_only, numbers_on}
use Rattle.serve.proofs.commands.forget.Goals as goal

pub returns : goal.returns
unfolding restarted
returns c =
    let hold = c.keep_hold.ensures in
    let write = c.keep_write.ensures in
    let bit = c.keep_configure.ensures in
    let memory = c.keep_memory.ensures in (
      λ stands.
          memory-written
          (configure_written (write-written (hold-written (readable-written _ stands) (numbers-left _ _ hold.0, hold.1)) (numbers-left _ _ write.0, write.1)) (numbers-left _ _ bit))
          (numbers-left _ _ memory.0, memory.1),
      numbers_on _ _ _ (numbers_only _ _ hold.0) (numbers_on _ _ _ (numbers_only _ _ write.0) (numbers_on _ _ _ (numbers_only _ _ bit) (numbers_only _ _ memory.0))),
    )
