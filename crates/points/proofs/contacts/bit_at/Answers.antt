-- `points::contacts::bit_at` meets its contract. Assumes nothing.
use Rattle.std.proofs.lemmas.Nat.Bits.{shr_and_one}
use Rattle.model.proofs.BitLaws.{bit_shift}
use Rattle.points.proofs.contacts.bit_at.Goals as goal

pub returns : goal.returns
returns c = rw (shr_and_one, bit_shift)
