-- `layout::parts::put_value` meets its contract. Assumes nothing.
use mathlib.Core.Path.{sym, ◌∙◌}
use native.Mathlib.Omega.{arith}
use Rattle.chars.proofs.WordLaws.{length-value}
use Rattle.layout.specs.Regions.{start_in}
use Rattle.layout.specs.Unit.{unit_sizes}
use Rattle.layout.proofs.UnitLaws.{put_in_lem, put_out}
use Rattle.layout.proofs.parts.put_value.Goals as goal

pub returns-then-n-lt128 : goal.returns-then-n-lt128
unfolding start_in unit_sizes
returns-then-n-lt128 c = rw (← c.from-n.ensures) (c.put_value.ensures ∙ sym (put_in_lem _ _ _ _ (omega (arith, length-value c.args.value))))

pub returns-else-n-lt128 : goal.returns-else-n-lt128
unfolding unit_sizes
returns-else-n-lt128 c = rw (← c.from-n.ensures) (sym (put_out _ _ _ _ (omega (arith, length-value c.args.value))))
