-- `layout::means::is_for` meets its contract. Assumes nothing.
use mathlib.Core.Path.{refl}
use borrow.Author.Tests.{eq-eqb, ne_eqb}
use Rattle.model.specs.Config.{names}
use Rattle.layout.proofs.means.is_for.Goals as goal

pub returns-then-window_of-ne0 : goal.returns-then-window_of-ne0
unfolding names
returns-then-window_of-ne0 c = rw (← c.number_at.ensures, ← c.window_of.ensures, ne_eqb _ _ c.if-window_of-ne0.true) refl

pub returns-else-window_of-ne0 : goal.returns-else-window_of-ne0
unfolding names
returns-else-window_of-ne0 c = rw (← c.window_of.ensures, eq-eqb _ _ c.if-window_of-ne0.false) refl
