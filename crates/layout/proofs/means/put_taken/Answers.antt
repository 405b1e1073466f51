-- `layout::means::put_taken` meets its contract. Assumes nothing.
use mathlib.Core.Path.{sym, ◌∙◌}
use native.Mathlib.Omega.{arith}
use Rattle.chars.proofs.WordLaws.{length-word}
use Rattle.layout.specs.Regions.{start_in}
use Rattle.layout.specs.Unit.{unit_sizes}
use Rattle.layout.proofs.UnitLaws.{put_in_lem, put_out}
use Rattle.layout.proofs.means.put_taken.Goals as goal

pub returns-then-place-lt-MEANS : goal.returns-then-place-lt-MEANS
unfolding start_in unit_sizes
returns-then-place-lt-MEANS c = c.put_word.ensures ∙ sym (put_in_lem _ _ _ _ (omega (arith, length-word c.args.n)))

pub returns-else-place-lt-MEANS : goal.returns-else-place-lt-MEANS
unfolding unit_sizes
returns-else-place-lt-MEANS c = sym (put_out _ _ _ _ (omega (arith, length-word c.args.n)))
