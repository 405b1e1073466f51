-- `layout::judged::fits` meets its contract: the layout first, then each part in turn, by its function, and the room once the files are
-- known to be valid. Assumes nothing.
use Rattle.std.specs.Prelude.{◌≡◌, length}
use mathlib.Core.Path.{sym, ◌∙◌}
use Rattle.layout.proofs.UnitLaws.{unit_figure}
use native.Mathlib.Omega.{arith}
use borrow.Author.Tests.{eq-eqb, ne_eqb}
use Rattle.model.proofs.Conditions.{and_left}
use Rattle.layout.proofs.JudgedLaws.{and_on, and_off}
use Rattle.layout.proofs.TableLaws.{fits_in_lem}
use Rattle.layout.proofs.judged.fits.Goals as goal

pub returns-then-plans_judged : goal.returns-then-plans_judged
returns-then-plans_judged c =
    let long : length c.args.unit.now ≡ unit_figure = omega (arith, c.told-unit) in
    let judged = sym c.files_judged.ensures ∙ c.if-files_judged.true in
    (and_on (eq-eqb _ _ (sym c.layout_of.ensures ∙ c.if-layout_of-eq-CURRENT.true))
    (and_on (sym c.core_judged.ensures ∙ c.if-core_judged.true)
    (and_on (sym c.config_judged.ensures ∙ c.if-config_judged.true)
    (and_on judged
    (and_on (sym (c.means_fit.ensures (and_left _ _ judged)) ∙ c.if-means_fit.true)
    (and_on (sym c.plans_judged.ensures ∙ c.if-plans_judged.true)
    c.memory_judged.ensures))))))
    ∙ sym (fits_in_lem _ _ _ long)

pub returns-else-plans_judged : goal.returns-else-plans_judged
returns-else-plans_judged c =
    let long : length c.args.unit.now ≡ unit_figure = omega (arith, c.told-unit) in
    let judged = sym c.files_judged.ensures ∙ c.if-files_judged.true in
    (and_on (eq-eqb _ _ (sym c.layout_of.ensures ∙ c.if-layout_of-eq-CURRENT.true))
    (and_on (sym c.core_judged.ensures ∙ c.if-core_judged.true)
    (and_on (sym c.config_judged.ensures ∙ c.if-config_judged.true)
    (and_on judged
    (and_on (sym (c.means_fit.ensures (and_left _ _ judged)) ∙ c.if-means_fit.true)
    (and_off _ (sym c.plans_judged.ensures ∙ c.if-plans_judged.false) c.if-plans_judged.false))))))
    ∙ sym (fits_in_lem _ _ _ long)

pub returns-else-means_fit : goal.returns-else-means_fit
returns-else-means_fit c =
    let long : length c.args.unit.now ≡ unit_figure = omega (arith, c.told-unit) in
    let judged = sym c.files_judged.ensures ∙ c.if-files_judged.true in
    (and_on (eq-eqb _ _ (sym c.layout_of.ensures ∙ c.if-layout_of-eq-CURRENT.true))
    (and_on (sym c.core_judged.ensures ∙ c.if-core_judged.true)
    (and_on (sym c.config_judged.ensures ∙ c.if-config_judged.true)
    (and_on judged
    (and_off _ (sym (c.means_fit.ensures (and_left _ _ judged)) ∙ c.if-means_fit.false) c.if-means_fit.false)))))
    ∙ sym (fits_in_lem _ _ _ long)

pub returns-else-files_judged : goal.returns-else-files_judged
returns-else-files_judged c =
    let long : length c.args.unit.now ≡ unit_figure = omega (arith, c.told-unit) in
    (and_on (eq-eqb _ _ (sym c.layout_of.ensures ∙ c.if-layout_of-eq-CURRENT.true))
    (and_on (sym c.core_judged.ensures ∙ c.if-core_judged.true)
    (and_on (sym c.config_judged.ensures ∙ c.if-config_judged.true)
    (and_off _ (sym c.files_judged.ensures ∙ c.if-files_judged.false) c.if-files_judged.false))))
    ∙ sym (fits_in_lem _ _ _ long)

pub returns-else-config_judged : goal.returns-else-config_judged
returns-else-config_judged c =
    let long : length c.args.unit.now ≡ unit_figure = omega (arith, c.told-unit) in
    (and_on (eq-eqb _ _ (sym c.layout_of.ensures ∙ c.if-layout_of-eq-CURRENT.true))
    (and_on (sym c.core_judged.ensures ∙ c.if-core_judged.true)
    (and_off _ (sym c.config_judged.ensures ∙ c.if-config_judged.false) c.if-config_judged.false)))
    ∙ sym (fits_in_lem _ _ _ long)

pub returns-else-core_judged : goal.returns-else-core_judged
returns-else-core_judged c =
    let long : length c.args.unit.now ≡ unit_figure = omega (arith, c.told-unit) in
    (and_on (eq-eqb _ _ (sym c.layout_of.ensures ∙ c.if-layout_of-eq-CURRENT.true))
    (and_off _ (sym c.core_judged.ensures ∙ c.if-core_judged.false) c.if-core_judged.false))
    ∙ sym (fits_in_lem _ _ _ long)

pub returns-else-layout_of-eq-CURRENT : goal.returns-else-layout_of-eq-CURRENT
returns-else-layout_of-eq-CURRENT c =
    let long : length c.args.unit.now ≡ unit_figure = omega (arith, c.told-unit) in
    (and_off _ (ne_eqb _ _ (λ q. c.if-layout_of-eq-CURRENT.false (c.layout_of.ensures ∙ q))) (ne_eqb _ _ c.if-layout_of-eq-CURRENT.false))
    ∙ sym (fits_in_lem _ _ _ long)
