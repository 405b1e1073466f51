-- `layout::write::write_kept` meets its contract. Assumes nothing.
use mathlib.Core.Path.{ap, ◌∙◌}
use Rattle.layout.specs.Numbers.{write_in}
use Rattle.layout.proofs.write.write_kept.Goals as goal

pub returns : goal.returns
returns c = c.write_in.ensures ∙ ap write_in c.write_at.ensures
