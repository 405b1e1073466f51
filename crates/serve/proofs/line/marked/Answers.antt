-- `serve::line::marked` meets its contract. Assumes nothing.
use mathlib.Core.Path.{refl}
use Rattle.serve.proofs.line.marked.Goals as goal

pub returns : goal.returns
returns c = (refl, c.hear.ensures)
