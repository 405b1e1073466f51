-- `layout::equipment::no_input` meets its contract: a run of its table is a run of the memory.
-- Assumes nothing.
use mathlib.Core.Path.{◌∙◌}
use Rattle.layout.specs.Regions.{start_in}
use Rattle.layout.specs.Unit.{unit_sizes}
use Rattle.layout.proofs.TableLaws.{inputs_in}
use Rattle.layout.proofs.equipment.no_input.Goals as goal

pub returns : goal.returns
unfolding start_in unit_sizes
returns c = c.none_in.ensures ∙ inputs_in _ _ _ c.requires
