-- `serve::commands::planned` meets its contract. Assumes nothing.
use mathlib.Core.Path.{refl}
use Rattle.serve.proofs.commands.planned.Goals as goal

pub returns-then-anew : goal.returns-then-anew
returns-then-anew c = rw c.if-anew.true c.replan.ensures

pub returns-else-anew : goal.returns-else-anew
returns-else-anew c = rw c.if-anew.false refl
