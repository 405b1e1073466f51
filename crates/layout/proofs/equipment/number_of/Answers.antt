-- `layout::equipment::number_of` meets its contract. Assumes nothing.
use mathlib.Core.Path.{sym, ◌∙◌}
use Rattle.layout.specs.Regions.{start_in}
use Rattle.layout.specs.Unit.{unit_sizes}
use Rattle.layout.proofs.UnitLaws.{number_is}
use Rattle.layout.proofs.equipment.number_of.Goals as goal

pub returns : goal.returns
unfolding start_in unit_sizes
returns c = c.word_at.ensures ∙ sym (number_is _)
