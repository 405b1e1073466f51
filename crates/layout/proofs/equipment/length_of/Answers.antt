-- `layout::equipment::length_of` meets its contract. Assumes nothing.
use mathlib.Core.Path.{sym, ◌∙◌}
use Rattle.layout.specs.Regions.{start_in}
use Rattle.layout.specs.Unit.{unit_sizes}
use Rattle.layout.proofs.UnitLaws.{length_is}
use Rattle.layout.proofs.equipment.length_of.Goals as goal

pub returns : goal.returns
unfolding start_in unit_sizes
returns c = c.word_at.ensures ∙ sym (length_is _)
