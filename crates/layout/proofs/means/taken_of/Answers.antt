-- `layout::means::taken_of` meets its contract. Assumes nothing.
use mathlib.Core.Path.{sym, ◌∙◌}
use Rattle.layout.specs.Regions.{start_in}
use Rattle.layout.specs.Unit.{unit_sizes}
use Rattle.layout.proofs.PlacedLaws.{taken_at, taken-past}
use Rattle.layout.proofs.means.taken_of.Goals as goal

pub returns-then-place-lt-MEANS : goal.returns-then-place-lt-MEANS
unfolding start_in unit_sizes
returns-then-place-lt-MEANS c = c.word_at.ensures ∙ sym (taken_at _ _ c.if-place-lt-MEANS.true)

pub returns : goal.returns
returns c = sym (taken-past _ _ c.if-place-lt-MEANS.false)
