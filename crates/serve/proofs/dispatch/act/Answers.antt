-- `serve::dispatch::act` meets its contract. Assumes nothing.
use mathlib.Core.Path.{refl, sym, ap, ◌∙◌}
use Rattle.model.specs.Frame.{asked}
use Rattle.model.specs.Control.{breaks}
use Rattle.model.specs.Step.{broken_off}
use Rattle.model.specs.declared.Hold.{Hold}
use Rattle.layout.specs.Numbers.{core_in}
use Rattle.layout.proofs.NumbersLaws.{readable-written}
use Rattle.layout.proofs.PlaceLaws.{hold-written}
use Rattle.layout.specs.Unit.{config_in, numbers_in}
use Rattle.layout.proofs.UnitLaws.{unit-long, numbers-left, numbers_only}
use Rattle.points.proofs.AnswerLaws.{in_room_lem, fills_as}
use Rattle.layout.specs.Kept.{inner_in}
use Rattle.std.specs.Prelude.{Ok}
use Rattle.frames.proofs.Named.{named, unnamed}
use Rattle.model.specs.Function.{code_of}
use Rattle.model.specs.declared.function.Function.TheVariants.{Inputs, Calculations, History, Tables, Control, Internal, Return}
use Rattle.serve.proofs.CommandLaws.{internal_stays, return_stays, acts_scan, acts-refused, unshifted_numbers, numbers-kept}
use Rattle.serve.proofs.StepLaws.{step_broken, step-told, step-inputs, step-calculations, step_tables, step_control, step_internal, step_return, step_unknown, acts_control, run_held, acted-still, alone-stays}
use Rattle.serve.proofs.KeptLaws.{steady-same}
use Rattle.serve.proofs.FitLaws.{now_equipped}
use Rattle.serve.proofs.TameLaws.{inputs-tame, calculations-tame, tables_tame, control_tame}
use Rattle.serve.proofs.TellingLaws.{acted-told, told-steady}
use Rattle.serve.proofs.dispatch.act.Goals as goal

pub returns-then-breaks_off : goal.returns-then-breaks_off
unfolding broken_off core_in
returns-then-breaks_off c =
    let u = c.args.unit.now in
    let ks = numbers_in u in
    let i = inner_in u c.args.block.now c.args.records.now in
    let q = asked c.args.frame c.args.body.now in
    let b = sym (c.breaks_off.ensures ∙ ap (λ (h : Hold). breaks h q) c.hold_kept.ensures) ∙ c.if-breaks_off.true in
    let z = step_broken (config_in u) i c.args.lag q b in
    let held = c.keep_hold.ensures in
    let only = numbers_only _ _ held.0 in (
      λ y stands.
          rw (unshifted_numbers u _ only).counts
          (acted-still (alone-stays i _ z) (acts-refused i z refl c.from.ensures (hold-written (readable-written ks stands) (numbers-left _ _ held.0, held.1)) (numbers-kept u _ _ _ only))),
      (unshifted_numbers u _ only).steady,
    )

pub returns-in-Ok-Inputs : goal.returns-in-Ok-Inputs
unfolding core_in
returns-in-Ok-Inputs c =
    let u = c.args.unit.now in
    let ks = numbers_in u in
    let i = inner_in u c.args.block.now c.args.records.now in
    let q = asked c.args.frame c.args.body.now in
    let b = sym (c.breaks_off.ensures ∙ ap (λ (h : Hold). breaks h q) c.hold_kept.ensures) ∙ c.if-breaks_off.false in
    let z = step-inputs (config_in u) i c.args.lag q b (named code_of c.args.frame.function (c.in-Ok-Inputs.is ∙ ap Ok c.in-Ok-Inputs.field-0-is) c.try_from.ensures) in (
      λ y stands.
          acted-still (alone-stays i _ z) (acts_scan i _ (inputs-tame _ _ q) z (fills_as (sym (in_room_lem _ _ c.requires.0)) c.scan.ensures) c.from-in-Ok-Inputs.ensures (readable-written ks stands) refl),
      steady-same u,
    )

pub returns-in-Ok-Calculations : goal.returns-in-Ok-Calculations
unfolding core_in
returns-in-Ok-Calculations c =
    let u = c.args.unit.now in
    let ks = numbers_in u in
    let i = inner_in u c.args.block.now c.args.records.now in
    let q = asked c.args.frame c.args.body.now in
    let b = sym (c.breaks_off.ensures ∙ ap (λ (h : Hold). breaks h q) c.hold_kept.ensures) ∙ c.if-breaks_off.false in
    let z = step-calculations (config_in u) i c.args.lag q b (named code_of c.args.frame.function (c.in-Ok-Calculations.is ∙ ap Ok c.in-Ok-Calculations.field-0-is) c.try_from.ensures) in (
      λ y stands.
          acted-still (alone-stays i _ z) (acts_scan i _ (calculations-tame _ _ q) z (fills_as (sym (in_room_lem _ _ c.requires.0 ∙ now_equipped u c.args.records.now q)) c.scan-in-Ok-Calculations.ensures) c.from-in-Ok-Calculations.ensures (readable-written ks stands) refl),
      steady-same u,
    )

pub returns-in-Ok-History : goal.returns-in-Ok-History
unfolding core_in
returns-in-Ok-History c =
    let u = c.args.unit.now in
    let ks = numbers_in u in
    let i = inner_in u c.args.block.now c.args.records.now in
    let q = asked c.args.frame c.args.body.now in
    let b = sym (c.breaks_off.ensures ∙ ap (λ (h : Hold). breaks h q) c.hold_kept.ensures) ∙ c.if-breaks_off.false in
    let told = c.serve.ensures in (
      λ y stands.
          acted-told u _ _ q _ _ (unit-long u c.told-unit) y stands told (step-told (config_in u) i c.args.lag q b (named code_of c.args.frame.function (c.in-Ok-History.is ∙ ap Ok c.in-Ok-History.field-0-is) c.try_from.ensures)) c.from-in-Ok-History.ensures,
      told-steady u _ told,
    )

pub returns-in-Ok-Tables : goal.returns-in-Ok-Tables
unfolding core_in
returns-in-Ok-Tables c =
    let u = c.args.unit.now in
    let ks = numbers_in u in
    let i = inner_in u c.args.block.now c.args.records.now in
    let q = asked c.args.frame c.args.body.now in
    let b = sym (c.breaks_off.ensures ∙ ap (λ (h : Hold). breaks h q) c.hold_kept.ensures) ∙ c.if-breaks_off.false in
    let z = step_tables (config_in u) i c.args.lag q b (named code_of c.args.frame.function (c.in-Ok-Tables.is ∙ ap Ok c.in-Ok-Tables.field-0-is) c.try_from.ensures) in (
      λ y stands.
          acted-still (alone-stays i _ z) (acts_scan i _ (tables_tame _ _ _ q) z (fills_as (sym (in_room_lem _ _ c.requires.0)) c.planned.ensures) c.from-in-Ok-Tables.ensures (readable-written ks stands) refl),
      steady-same u,
    )

pub returns-in-Ok-Control : goal.returns-in-Ok-Control
unfolding core_in
returns-in-Ok-Control c =
    let u = c.args.unit.now in
    let ks = numbers_in u in
    let i = inner_in u c.args.block.now c.args.records.now in
    let q = asked c.args.frame c.args.body.now in
    let b = sym (c.breaks_off.ensures ∙ ap (λ (h : Hold). breaks h q) c.hold_kept.ensures) ∙ c.if-breaks_off.false in
    let z = step_control (config_in u) i c.args.lag q b (named code_of c.args.frame.function (c.in-Ok-Control.is ∙ ap Ok c.in-Ok-Control.field-0-is) c.try_from.ensures) in
    let ran = rw c.hold_kept-in-Ok-Control.ensures at c.control-ran.ensures in
    let held = c.controlled.ensures in (
      λ y stands.
          rw (unshifted_numbers u _ held.numbers_promise.1).counts
          (acted-still (alone-stays i _ z) (acts_control i _ (control_tame _ _ q) z ran held.value (rw (run_held i.core i.areas _ _ q ran) at (held.numbers_promise.0 stands)) (numbers-kept u _ _ _ held.numbers_promise.1))),
      (unshifted_numbers u _ held.numbers_promise.1).steady,
    )

pub returns-in-Ok-Internal : goal.returns-in-Ok-Internal
unfolding core_in
returns-in-Ok-Internal c =
    let u = c.args.unit.now in
    let ks = numbers_in u in
    let i = inner_in u c.args.block.now c.args.records.now in
    let q = asked c.args.frame c.args.body.now in
    let b = sym (c.breaks_off.ensures ∙ ap (λ (h : Hold). breaks h q) c.hold_kept.ensures) ∙ c.if-breaks_off.false in
    let done = c.internal.ensures in (
      λ y stands.
          rw (step_internal (config_in u) i c.args.lag q b (named code_of c.args.frame.function (c.in-Ok-Internal.is ∙ ap Ok c.in-Ok-Internal.field-0-is) c.try_from.ensures), done.1.counts) (acted-still (internal_stays (config_in u) i c.args.lag q) (done.0 i.areas.samples i.history.files stands)),
      done.1.steady,
    )

pub returns-in-Ok-Return : goal.returns-in-Ok-Return
unfolding core_in
returns-in-Ok-Return c =
    let u = c.args.unit.now in
    let ks = numbers_in u in
    let i = inner_in u c.args.block.now c.args.records.now in
    let q = asked c.args.frame c.args.body.now in
    let b = sym (c.breaks_off.ensures ∙ ap (λ (h : Hold). breaks h q) c.hold_kept.ensures) ∙ c.if-breaks_off.false in (
      λ y stands.
          rw (step_return (config_in u) i c.args.lag q b (named code_of c.args.frame.function (c.in-Ok-Return.is ∙ ap Ok c.in-Ok-Return.field-0-is) c.try_from.ensures)) (acted-still (return_stays i q) (c.returned.ensures i.areas.samples i.history.files stands)),
      steady-same u,
    )

pub returns-in-Err : goal.returns-in-Err
unfolding core_in
returns-in-Err c =
    let u = c.args.unit.now in
    let ks = numbers_in u in
    let i = inner_in u c.args.block.now c.args.records.now in
    let q = asked c.args.frame c.args.body.now in
    let b = sym (c.breaks_off.ensures ∙ ap (λ (h : Hold). breaks h q) c.hold_kept.ensures) ∙ c.if-breaks_off.false in
    let m = unnamed code_of c.args.frame.function c.in-Err.is c.try_from.ensures in
    let z = step_unknown (config_in u) i c.args.lag q b (m Inputs) (m Calculations) (m History) (m Tables) (m Control) (m Internal) (m Return) in (
      λ y stands.
          acted-still (alone-stays i _ z) (acts-refused i z refl c.from-in-Err.ensures (readable-written ks stands) refl),
      steady-same u,
    )
