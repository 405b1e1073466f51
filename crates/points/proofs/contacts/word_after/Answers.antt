-- `points::contacts::word_after` meets its contract. Assumes nothing.
use Rattle.std.proofs.Common.{arith}
use Rattle.model.specs.Contacts.{word_after}
use Rattle.points.proofs.ContactLaws.{same_state}
use Rattle.points.proofs.contacts.word_after.Goals as goal

pub returns-then-bit_at-state : goal.returns-then-bit_at-state
unfolding word_after
returns-then-bit_at-state c = grind (arith, same_state)

pub returns : goal.returns
unfolding word_after
returns c = grind (arith, same_state)
