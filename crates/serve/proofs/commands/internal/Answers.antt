-- `serve::commands::internal` meets its contract. Assumes nothing.
use mathlib.Core.Path.{refl, subst, ◌∙◌, ap}
use Rattle.model.specs.Frame.{asked}
use Rattle.model.specs.Blocks.{write_of}
use Rattle.std.specs.Prelude.{Option}
use Rattle.model.specs.declared.Write.{Write}
use Rattle.layout.specs.Numbers.{core_in}
use Rattle.layout.proofs.NumbersLaws.{readable-written}
use Rattle.layout.proofs.PlaceLaws.{write-written}
use Rattle.blocks.specs.Answers.{WritesAs}
use Rattle.blocks.proofs.MeansLaws.{executed-means}
use Rattle.layout.specs.Unit.{config_in}
use Rattle.layout.proofs.UnitLaws.{unit-long, numbers-left, numbers_only}
use Rattle.layout.specs.Kept.{inner_by}
use native.Mathlib.Omega.{arith}
use Rattle.std.specs.Prelude.{Ok}
use Rattle.frames.proofs.Named.{named, unnamed}
use Rattle.model.specs.Command.{internal_code}
use Rattle.model.specs.declared.command.InternalCommand.{InternalCommand}
use Rattle.serve.proofs.CommandLaws.{internal_initial, internal_write, internal_execute, internal_common, acts_initial, acts-written, acts-executed, unshifted_fixed, unshifted_plans, unshifted_numbers, unshifted_then, numbers-kept, numbers_by_fixed, numbers_by_plans, plans-means, plans-left}
use Rattle.serve.proofs.TameLaws.{write_bare, execute_bare}
use Rattle.serve.proofs.commands.internal.Goals as goal

pub returns-in-Ok-Restart : goal.returns-in-Ok-Restart
returns-in-Ok-Restart c =
    let u = c.args.unit.now in
    let q = asked c.args.frame c.args.body.now in (
      λ ss fs stands.
          let i = inner_by c.args.unit.now c.args.block.now ss fs in
          acts_initial i q (internal_initial (config_in u) i c.args.lag q (named internal_code c.args.frame.command (c.in-Ok-Restart.is ∙ ap Ok c.in-Ok-Restart.field-0-is) c.try_from.ensures)) refl c.restart.ensures.value (c.restart.ensures.numbers_promise.0 stands) (numbers-kept u _ _ _ c.restart.ensures.numbers_promise.1),
      unshifted_numbers u _ c.restart.ensures.numbers_promise.1,
    )

pub returns-in-Ok-Write : goal.returns-in-Ok-Write
unfolding core_in
returns-in-Ok-Write c =
    let u = c.args.unit.now in
    let q = asked c.args.frame c.args.body.now in
    let done = subst (λ (w : Option Write). WritesAs (write_of w q) c.write-done.result) c.write_kept.ensures c.write-done.ensures in
    let kept = c.keep_write.ensures in
    let only = numbers_only _ _ kept.0 in (
      λ ss fs stands.
          let i = inner_by c.args.unit.now c.args.block.now ss fs in
          acts-written i _ (write_bare _ q) (internal_write (config_in u) i c.args.lag q (named internal_code c.args.frame.command (c.in-Ok-Write.is ∙ ap Ok c.in-Ok-Write.field-0-is) c.try_from.ensures)) done refl c.from.ensures
          (write-written (readable-written _ stands) (numbers-left _ _ kept.0, kept.1)) (numbers-kept u _ _ _ only),
      unshifted_numbers u _ only,
    )

pub returns-in-Ok-Execute : goal.returns-in-Ok-Execute
unfolding core_in
returns-in-Ok-Execute c =
    let u = c.args.unit.now in
    let q = asked c.args.frame c.args.body.now in
    let done = rw c.write_kept-in-Ok-Execute.ensures at c.execute-done.ensures in
    let w = executed-means u _ c.args.block.now _ _ q _ done in
    let b = c.execute-done.result.configures in
    let p = plans-means _ _ b (w.1 ∙ unit-long u c.told-unit) c.planned.ensures in
    let same = numbers_by_plans _ _ p.0 ∙ numbers_by_fixed u _ w.0 in
    let after = c.executed.ensures in (
      λ ss fs stands.
          let i = inner_by c.args.unit.now c.args.block.now ss fs in
          acts-executed i (config_in u).inputs _ (execute_bare _ _ _ q) (internal_execute (config_in u) i c.args.lag q (named internal_code c.args.frame.command (c.in-Ok-Execute.is ∙ ap Ok c.in-Ok-Execute.field-0-is) c.try_from.ensures)) done refl after.value
          (rw same at (after.numbers_promise.0 (rw same stands)))
          (numbers-kept _ _ _ _ after.numbers_promise.1 ∙ plans-left u _ _ _ _ b w.0 p.0),
      unshifted_then u _ _ (unshifted_then u _ _ (unshifted_fixed u _ w.0 w.1) (unshifted_plans _ _ p.0 p.1)) (unshifted_numbers _ _ after.numbers_promise.1),
    )

pub returns-in-Ok-ResetCount : goal.returns-in-Ok-ResetCount
returns-in-Ok-ResetCount c =
    let u = c.args.unit.now in
    let q = asked c.args.frame c.args.body.now in
    let code = named internal_code c.args.frame.command (c.in-Ok-ResetCount.is ∙ ap Ok c.in-Ok-ResetCount.field-0-is) c.try_from.ensures in
    let done = c.common.ensures in (
      λ ss fs stands.
          rw (internal_common (config_in u) (inner_by u c.args.block.now ss fs) c.args.lag q (λ e. omega (arith, code, e)) (λ e. omega (arith, code, e)) (λ e. omega (arith, code, e))) (done.0 c.args.block.now ss fs stands),
      done.1,
    )

pub returns-in-Ok-SetTime : goal.returns-in-Ok-SetTime
returns-in-Ok-SetTime c =
    let u = c.args.unit.now in
    let q = asked c.args.frame c.args.body.now in
    let code = named internal_code c.args.frame.command (c.in-Ok-SetTime.is ∙ ap Ok c.in-Ok-SetTime.field-0-is) c.try_from.ensures in
    let done = c.common-in-Ok-SetTime.ensures in (
      λ ss fs stands.
          rw (internal_common (config_in u) (inner_by u c.args.block.now ss fs) c.args.lag q (λ e. omega (arith, code, e)) (λ e. omega (arith, code, e)) (λ e. omega (arith, code, e))) (done.0 c.args.block.now ss fs stands),
      done.1,
    )

pub returns-in-Err : goal.returns-in-Err
returns-in-Err c =
    let u = c.args.unit.now in
    let q = asked c.args.frame c.args.body.now in
    let m = unnamed internal_code c.args.frame.command c.in-Err.is c.try_from.ensures in
    let done = c.common-in-Err.ensures in (
      λ ss fs stands.
          rw (internal_common (config_in u) (inner_by u c.args.block.now ss fs) c.args.lag q (m InternalCommand.Restart) (m InternalCommand.Write) (m InternalCommand.Execute)) (done.0 c.args.block.now ss fs stands),
      done.1,
    )
