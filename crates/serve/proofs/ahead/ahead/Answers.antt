-- `serve::ahead::ahead` meets its contract. Assumes nothing.
use mathlib.Core.Path.{refl, sym, ap, subst, ◌∙◌}
use borrow.Author.Tests.{eqb-true}
use Rattle.model.specs.Frame.{asked}
use Rattle.model.specs.Control.{breaks}
use Rattle.model.specs.Blocks.{write_of}
use Rattle.model.specs.declared.Hold.{Hold}
use Rattle.std.specs.Prelude.{Option}
use Rattle.model.specs.declared.Write.{Write}
use Rattle.model.proofs.Conditions.{false-true}
use Rattle.blocks.specs.Answers.{WritesAs}
use Rattle.layout.specs.Numbers.{core_in}
use Rattle.layout.specs.Unit.{config_in}
use Rattle.layout.specs.Kept.{inner_in}
use Rattle.model.specs.declared.Outcome.TheVariants.{WriteTaken}
use Rattle.serve.proofs.OutcomeLaws.{numbers-tell}
use Rattle.serve.proofs.AheadLaws.{ahead-other, ahead_broken, ahead-held, outcome-taken, ahead-taken}
use Rattle.serve.proofs.ahead.ahead.Goals as goal
use Rattle.serve.proofs.ahead.ahead.Goals.{then-unit_of-number_of-via-then-unit_of-number_of, then-unit_of-number_of-via-else-unit_of-number_of+then-breaks_off}

pub returns-then-unit_of-number_of : goal.returns-then-unit_of-number_of
unfolding core_in
returns-then-unit_of-number_of c =
    let u = c.args.unit.now in
    let q = asked c.args.write c.data_of-body.result.now in
    record {
      taken = λ e. false-true e;
      same = λ _. refl;
      refused = λ _ lag block area. elim c.then-unit_of-number_of.branch [
        | then-unit_of-number_of-via-then-unit_of-number_of w ↦
            ahead-other (config_in u) (inner_in u block area) lag c.args.write c.args.s.now c.requires.0 c.data_of-body.ensures c.requires.1 c.requires.2 (λ e. w.if-unit_of-number_of.true (c.unit_of.ensures ∙ e ∙ sym c.number_of.ensures))
        | then-unit_of-number_of-via-else-unit_of-number_of+then-breaks_off w ↦
            ahead_broken (config_in u) (inner_in u block area) lag c.args.write c.args.s.now c.requires.0 c.data_of-body.ensures c.requires.1 c.requires.2 (sym c.unit_of.ensures ∙ w.if-unit_of-number_of.false ∙ c.number_of.ensures) (sym (w.breaks_off.ensures ∙ ap (λ (h : Hold). breaks h q) w.hold_kept.ensures) ∙ w.if-breaks_off.true)
      ];
    }

pub returns-then-taken : goal.returns-then-taken
unfolding core_in
returns-then-taken c =
    let u = c.args.unit.now in
    let q = asked c.args.write c.data_of-body.result.now in
    let done = subst (λ (p : Option Write). WritesAs (write_of p q) c.write-done.result) c.write_kept.ensures c.write-done.ensures in
    let own = (sym c.unit_of.ensures ∙ c.if-unit_of-number_of.false ∙ c.number_of.ensures) in
    let free = (sym (c.breaks_off.ensures ∙ ap (λ (h : Hold). breaks h q) c.hold_kept.ensures) ∙ c.if-breaks_off.false) in
    let five = eqb-true _ 5 (numbers-tell _ WriteTaken c.eq-taken.ensures c.if-taken.true) in
    record {
      taken = λ _ lag block area entry long.
          ahead-taken u _ _ block area entry lag c.args.write c.args.s.now _ c.requires.0 c.data_of-body.ensures c.requires.1 c.requires.2 own free done
          (outcome-taken (config_in u) (inner_in u block area) lag c.args.write c.args.s.now c.requires.0 c.data_of-body.ensures c.requires.1 c.requires.2 own free done five) c.keep_write.ensures c.hear.ensures long;
      same = λ e. false-true (sym e ∙ c.if-taken.true);
      refused = λ e. false-true (sym e ∙ c.if-taken.true);
    }

pub returns-else-taken : goal.returns-else-taken
unfolding core_in
returns-else-taken c =
    let u = c.args.unit.now in
    let q = asked c.args.write c.data_of-body.result.now in
    let done = subst (λ (p : Option Write). WritesAs (write_of p q) c.write-done.result) c.write_kept.ensures c.write-done.ensures in
    let own = (sym c.unit_of.ensures ∙ c.if-unit_of-number_of.false ∙ c.number_of.ensures) in
    let free = (sym (c.breaks_off.ensures ∙ ap (λ (h : Hold). breaks h q) c.hold_kept.ensures) ∙ c.if-breaks_off.false) in
    record {
      taken = λ e. false-true (sym c.if-taken.false ∙ e);
      same = λ _. refl;
      refused = λ _ lag block area. ahead-held (config_in u) (inner_in u block area) lag c.args.write c.args.s.now c.requires.0 c.data_of-body.ensures c.requires.1 c.requires.2 own free done (numbers-tell _ WriteTaken c.eq-taken.ensures c.if-taken.false);
    }
