-- `layout::parts::put_word` meets its contract. Assumes nothing.
use mathlib.Core.Path.{sym, ◌∙◌}
use native.Mathlib.Omega.{arith}
use Rattle.chars.proofs.WordLaws.{length-word}
use Rattle.layout.specs.Regions.{start_in}
use Rattle.layout.specs.Unit.{unit_sizes}
use Rattle.layout.proofs.UnitLaws.{put_in_lem}
use Rattle.layout.proofs.parts.put_word.Goals as goal

pub returns : goal.returns
unfolding start_in unit_sizes
returns c = rw (← c.from-n.ensures) (c.put_word.ensures ∙ sym (put_in_lem _ _ _ _ (omega (arith, length-word c.args.word))))
