-- `points::contacts::with_bit` meets its contract. Assumes nothing.
use Rattle.std.proofs.Common.{arith}
use Rattle.points.proofs.ContactLaws.{bit_set, bit_cleared}
use Rattle.points.proofs.contacts.with_bit.Goals as goal

pub returns-then-bit : goal.returns-then-bit
returns-then-bit c = rw c.if-bit.true (bit_set _ _ (omega arith) c.requires)

pub returns-else-bit : goal.returns-else-bit
returns-else-bit c = rw c.if-bit.false (bit_cleared _ _ (omega arith) c.requires)
