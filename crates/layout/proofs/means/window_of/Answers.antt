-- `layout::means::window_of` meets its contract. Assumes nothing.
use mathlib.Core.Path.{sym, ◌∙◌}
use Rattle.model.specs.Config.{window_at}
use Rattle.layout.specs.Regions.{start_in}
use Rattle.layout.specs.Unit.{unit_sizes}
use Rattle.layout.proofs.PlacedLaws.{mean_window_at, mean_window-past}
use Rattle.layout.proofs.means.window_of.Goals as goal

pub returns-then-place-lt-MEANS : goal.returns-then-place-lt-MEANS
unfolding window_at start_in unit_sizes
returns-then-place-lt-MEANS c = c.word_at.ensures ∙ sym (mean_window_at _ _ c.if-place-lt-MEANS.true)

pub returns : goal.returns
unfolding window_at
returns c = sym (mean_window-past _ _ c.if-place-lt-MEANS.false)
