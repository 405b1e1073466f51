-- `layout::select::hold_judged` meets its contract: readable numbers, then the select that they mean.
-- Assumes nothing.
use mathlib.Core.Path.{sym, ap, ◌∙◌}
use Rattle.model.specs.Fits.{hold_fits}
use Rattle.layout.proofs.JudgedLaws.{and_on, and_off}
use Rattle.layout.specs.Judged.{hold_judged}
use Rattle.layout.proofs.select.hold_judged.Goals as goal

pub returns-then-hold_stands : goal.returns-then-hold_stands
unfolding hold_judged
returns-then-hold_stands c =
    and_on (sym c.hold_stands.ensures ∙ c.if-hold_stands.true)
    (c.hold_fits.ensures ∙ ap (hold_fits _) c.hold_kept.ensures)

pub returns-else-hold_stands : goal.returns-else-hold_stands
unfolding hold_judged
returns-else-hold_stands c = and_off _ (sym c.hold_stands.ensures ∙ c.if-hold_stands.false) c.if-hold_stands.false
