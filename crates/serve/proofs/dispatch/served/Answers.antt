-- `serve::dispatch::served` meets its contract. Assumes nothing.
use mathlib.Core.Path.{refl, ◌∙◌}
use mathlib.Core.List.{[]}
use Rattle.model.specs.Frame.{asked}
use Rattle.model.specs.Step.{settled, finished, served}
use Rattle.layout.proofs.NumbersLaws.{written-readable}
use Rattle.layout.specs.Unit.{config_in, numbers_in}
use Rattle.layout.proofs.UnitLaws.{numbers-left, numbers_only, numbers_on}
use Rattle.layout.specs.Kept.{inner_in}
use Rattle.serve.proofs.CommandLaws.{unshifted_numbers}
use Rattle.serve.proofs.EndingLaws.{status-numbered}
use Rattle.serve.proofs.KeptLaws.{steady_then}
use Rattle.serve.proofs.ToldLaws.{areas-left, makes-told, told-steady}
use Rattle.serve.proofs.ServedLaws.{step-heard, makes-served}
use Rattle.serve.proofs.dispatch.served.Goals as goal

pub returns : goal.returns
unfolding settled served finished
returns c =
    let u = c.args.unit.now in
    let ks = numbers_in u in
    let i = inner_in u c.args.block.now c.args.records.now in
    let q = asked c.args.frame c.args.body.now in
    let done = c.act-outcome.ensures in
    let heard = rw c.from.ensures at c.hear.ensures in
    let ends = c.settle.ensures in
    let only = numbers_on _ _ _ (numbers_only _ _ heard) ends.1 in
    let o = c.act-outcome.result.outcome in
    let told = c.start_anew.ensures in
    let same = (unshifted_numbers _ _ only).steady.steady.config ∙ done.1.steady.config in (
      λ y stands.
          let a = done.0 y stands in
          let h = step-heard _ a.acts (numbers-left _ _ heard) in
          let f = rw (c.status_in-status.ensures, c.port_status_in-port.ensures ∙ status-numbered ks stands) at c.finish-sent.ensures in
          makes-told (config_in u) _ _ _ [] [] c.args.frame c.args.body.now o only same told
          (record {
            makes = makes-served (config_in u) i c.args.lag q _ c.requires.0 h a.files f (ends.0 (written-readable h.kept)) refl
                (areas-left (config_in u) _ _ _ _ _ c.args.frame c.args.body.now o only same told);
            changed = a.changed;
          }),
      steady_then _ _ _ (steady_then _ _ _ done.1 (unshifted_numbers _ _ only).steady)
          (told-steady (config_in u) _ _ _ [] [] c.args.frame c.args.body.now o only same told),
    )
