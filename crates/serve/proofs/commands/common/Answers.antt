-- `serve::commands::common` meets its contract. Assumes nothing.
use mathlib.Core.Path.{refl, ap, ◌∙◌}
use Rattle.model.specs.Frame.{asked}
use Rattle.model.specs.Clock.{set_time_of}
use Rattle.model.specs.Step.{alone}
use Rattle.model.specs.declared.Clock.{Clock}
use Rattle.clock.specs.declared.Set.{Set}
use Rattle.clock.specs.Times.{set_of}
use Rattle.layout.specs.Numbers.{core_in}
use Rattle.layout.proofs.NumbersLaws.{readable-written}
use Rattle.layout.proofs.PlaceLaws.{clock-written}
use Rattle.layout.specs.Unit.{config_in}
use Rattle.layout.proofs.UnitLaws.{unit-long, numbers-left, numbers_only}
use Rattle.layout.specs.Kept.{inner_by}
use Rattle.serve.proofs.CommandLaws.{common_reset, common_time, common_unknown, acts-changed, acts-timed, acts-refused, unshifted, unshifted_words, unshifted_numbers, numbers-kept, numbers_by_words, words_left, reset-left}
use Rattle.serve.proofs.TameLaws.{reset-tame, set-time_bare}
use Rattle.serve.proofs.commands.common.Goals as goal

pub returns-then-frame : goal.returns-then-frame
returns-then-frame c =
    let u = c.args.unit.now in
    let q = asked c.args.frame c.args.body.now in
    let w = reset-left u q _ (unit-long u c.told-unit) (c.reset_count.ensures.fills, c.reset_count.ensures.unit_after) in (
      λ block ss fs stands.
          let i = inner_by u block ss fs in
          acts-changed i _ (reset-tame _ _ q) (ap (alone i) (common_reset (config_in u) i.core i.areas c.args.lag q c.if-frame.true)) c.reset_count.ensures.fills c.from.ensures
          (rw (numbers_by_words u _ w.0) (readable-written _ stands)) (words_left u _ _ _ w.0),
      unshifted_words u _ w.0 w.1,
    )

pub returns-then-frame-2 : goal.returns-then-frame-2
unfolding core_in
returns-then-frame-2 c =
    let u = c.args.unit.now in
    let q = asked c.args.frame c.args.body.now in
    let done = c.set_time-set.ensures ∙ ap (λ (k : Clock). set_of (set_time_of c.args.lag k q)) c.clock_in.ensures in
    let kept = c.keep_clock.ensures in
    let only = numbers_only _ _ kept.0 in (
      λ block ss fs stands.
          let i = inner_by u block ss fs in
          acts-timed i (set-time_bare c.args.lag _ q) (ap (alone i) (common_time (config_in u) i.core i.areas c.args.lag q c.if-frame-2.true)) (ap (λ (x : Set). x.outcome) done) refl c.from-then-frame-2.ensures
          (rw done at (clock-written (readable-written _ stands) (numbers-left _ _ kept.0, kept.1, kept.2, kept.3))) (numbers-kept u _ _ _ only),
      unshifted_numbers u _ only,
    )

pub returns : goal.returns
returns c =
    let u = c.args.unit.now in
    let q = asked c.args.frame c.args.body.now in (
      λ block ss fs stands.
          let i = inner_by u block ss fs in
          acts-refused i (ap (alone i) (common_unknown (config_in u) i.core i.areas c.args.lag q c.if-frame.false c.if-frame-2.false)) refl c.from-2.ensures (readable-written _ stands) refl,
      unshifted u,
    )
