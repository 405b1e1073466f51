-- `layout::write::write_judged` meets its contract: readable numbers, then the write that they mean.
-- Assumes nothing.
use mathlib.Core.Path.{sym, ap, ◌∙◌}
use Rattle.model.specs.Fits.{write_fits}
use Rattle.layout.proofs.JudgedLaws.{and_on, and_off}
use Rattle.layout.specs.Judged.{write_judged}
use Rattle.layout.proofs.write.write_judged.Goals as goal

pub returns-then-write_stands : goal.returns-then-write_stands
unfolding write_judged
returns-then-write_stands c =
    and_on (sym c.write_stands.ensures ∙ c.if-write_stands.true)
    (c.pending_fits.ensures ∙ ap write_fits c.write_kept.ensures)

pub returns-else-write_stands : goal.returns-else-write_stands
unfolding write_judged
returns-else-write_stands c = and_off _ (sym c.write_stands.ensures ∙ c.if-write_stands.false) c.if-write_stands.false
