-- `layout::contacts::no_change` meets its contract. Assumes nothing.
use Rattle.std.proofs.Common.{arith, ◌∙◌}
use Rattle.layout.specs.Regions.{start_in}
use Rattle.layout.specs.Unit.{unit_sizes}
use Rattle.layout.proofs.ContactLaws.{changeless-none}
use Rattle.layout.proofs.contacts.no_change.Goals as goal

pub returns : goal.returns
unfolding start_in unit_sizes
returns c = c.none_in.ensures ∙ changeless-none c.args.unit.now 32 (omega arith)
