-- `layout::status::put_bit` meets its contract. Assumes nothing.
use mathlib.Core.Path.{◌∙◌}
use Rattle.layout.proofs.NumbersLaws.{flag-number}
use Rattle.layout.proofs.status.put_bit.Goals as goal

pub returns : goal.returns
returns c = rw (c.from.ensures ∙ flag-number c.args.on) at c.put_kept.ensures.renumbered
