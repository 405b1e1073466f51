-- `points::contacts::changed_after` meets its contract. Assumes nothing.
use Rattle.std.proofs.Common.{arith}
use Rattle.model.specs.Contacts.{changed_after}
use Rattle.points.proofs.ContactLaws.{same_state, changed_less}
use Rattle.points.proofs.contacts.changed_after.Goals as goal

pub returns-then-bit_at-state : goal.returns-then-bit_at-state
unfolding changed_after
returns-then-bit_at-state c = grind (arith, same_state)

pub returns : goal.returns
unfolding changed_after
returns c = grind (arith, same_state)

pub overflow_cast-result : goal.overflow_cast-result
overflow_cast-result c = grind (arith, changed_less)
