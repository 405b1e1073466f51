-- `serve::broadcast::broadcast` meets its contract. Assumes nothing.
use Rattle.model.specs.declared.Outcome.TheVariants.{Done, BroadcastDone, BroadcastRefused}
use Rattle.layout.specs.Numbers.{core_in, memory_in, port_in}
use Rattle.layout.proofs.PlaceLaws.{broadcast_written}
use Rattle.layout.specs.Kept.{areas_in}
use Rattle.serve.proofs.BroadcastLaws.{makes_broadcast}
use Rattle.layout.specs.Unit.{numbers_in}
use Rattle.layout.proofs.UnitLaws.{numbers-left, numbers_only}
use Rattle.serve.proofs.OutcomeLaws.{numbers-tell}
use Rattle.serve.proofs.CommandLaws.{unshifted_numbers, unshifted_then, numbers-kept}
use Rattle.serve.proofs.broadcast.broadcast.Goals as goal

pub returns-then-eq : goal.returns-then-eq
returns-then-eq c =
    let ks = numbers_in c.args.unit.now in
    let step = c.broadcast_step-step.ensures in
    let bit = c.keep_broadcast.ensures in (
      λ block ss fs mark entry stands.
          let a = areas_in c.args.unit.now block ss in
          let stirred = step.0 block ss stands in
          makes_broadcast (core_in ks) a (memory_in ks) (port_in ks) fs _ mark entry BroadcastDone stirred (numbers-kept _ block _ _ (numbers_only _ _ bit)) (rw (numbers-tell _ Done c.eq.ensures c.if-eq.true)) c.quiet.ensures (broadcast_written stirred.kept (numbers-left _ _ bit)),
      unshifted_then _ _ _ step.1 (unshifted_numbers _ _ (numbers_only _ _ bit)),
    )

pub returns : goal.returns
returns c =
    let ks = numbers_in c.args.unit.now in
    let step = c.broadcast_step-step.ensures in
    let bit = c.keep_broadcast.ensures in (
      λ block ss fs mark entry stands.
          let a = areas_in c.args.unit.now block ss in
          let stirred = step.0 block ss stands in
          makes_broadcast (core_in ks) a (memory_in ks) (port_in ks) fs _ mark entry BroadcastRefused stirred (numbers-kept _ block _ _ (numbers_only _ _ bit)) (rw (numbers-tell _ Done c.eq.ensures c.if-eq.false)) c.quiet-2.ensures (broadcast_written stirred.kept (numbers-left _ _ bit)),
      unshifted_then _ _ _ step.1 (unshifted_numbers _ _ (numbers_only _ _ bit)),
    )
