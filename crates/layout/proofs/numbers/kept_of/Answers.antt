-- `layout::numbers::kept_of` meets its contract. Assumes nothing.
use mathlib.Core.Path.{sym, ◌∙◌}
use Rattle.layout.specs.Regions.{start_in}
use Rattle.layout.specs.Unit.{unit_sizes}
use Rattle.layout.proofs.UnitLaws.{kept_at, kept-past}
use Rattle.layout.proofs.numbers.kept_of.Goals as goal

pub returns-then-i-lt26 : goal.returns-then-i-lt26
unfolding start_in unit_sizes
returns-then-i-lt26 c = c.word_at.ensures ∙ sym (kept_at _ _ c.if-i-lt26.true)

pub returns : goal.returns
returns c = sym (kept-past _ _ c.if-i-lt26.false)
