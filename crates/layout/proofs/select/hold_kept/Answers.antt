-- `layout::select::hold_kept` meets its contract. Assumes nothing.
use mathlib.Core.Path.{ap, ◌∙◌}
use Rattle.layout.specs.Numbers.{hold_in}
use Rattle.layout.proofs.select.hold_kept.Goals as goal

pub returns : goal.returns
returns c = c.hold_in.ensures ∙ ap hold_in c.hold_at.ensures
