-- `layout::port::mark_number` meets its contract. Assumes nothing.
use Rattle.std.proofs.Common.{rules}
use Rattle.model.specs.Port.{mark_number}
use Rattle.layout.proofs.port.mark_number.Goals as goal

pub returns : goal.returns
unfolding mark_number
returns c = search rules
