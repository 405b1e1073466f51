-- `tables::can_send` meets its contract. Assumes nothing.
use Rattle.std.proofs.Common.{arith}
use Rattle.std.proofs.lemmas.Grind.{common_steps}
use Rattle.model.specs.Tables.{sendable}
use Rattle.tables.proofs.TableLaws.{every-all}
use Rattle.tables.proofs.can_send.Goals as goal

pub returns-then-t : goal.returns-then-t
unfolding sendable
returns-then-t c = grind (arith, every-all)

pub returns-else-t : goal.returns-else-t
unfolding sendable
returns-else-t c = grind (arith, common_steps)
