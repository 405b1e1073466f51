-- `layout::means::place_judged` meets its contract. Assumes nothing.
use mathlib.Core.Path.{refl, sym, ◌∙◌}
use Rattle.model.specs.Fits.{samples_fit}
use Rattle.layout.proofs.JudgedLaws.{and_on, and_off, sampled_by_lem}
use Rattle.layout.proofs.means.place_judged.Goals as goal

pub returns-then-mean_valid : goal.returns-then-mean_valid
unfolding samples_fit
returns-then-mean_valid c =
    and_on (sym c.mean_valid.ensures ∙ c.if-mean_valid.true)
    (rw (sampled_by_lem, ← c.taken_of.ensures, ← c.window_of.ensures) refl)

pub returns-else-mean_valid : goal.returns-else-mean_valid
returns-else-mean_valid c = and_off _ (sym c.mean_valid.ensures ∙ c.if-mean_valid.false) c.if-mean_valid.false
