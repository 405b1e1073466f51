-- `board::answers::bits_number` meets its contract. Assumes nothing.
use Rattle.std.proofs.Common.{arith}
use Rattle.std.proofs.lemmas.Grind.{common_steps}
use Rattle.unit.specs.Samples.{IsNumber, Numeric}
use Rattle.board.specs.Told.{bits_in, bits_number}
use Rattle.board.proofs.answers.bits_number.Goals as goal

pub float_to_bits-result : goal.float_to_bits-result
unfolding IsNumber Numeric
float_to_bits-result c =
    let sampled = rw c.in-Sampling-Ready.is at c.in-Sampling-Ready.field-0-is in
    rw sampled at (rw c.in-Sampling-Ready.is at c.requires)

pub returns-in-Sampling-Ready : goal.returns-in-Sampling-Ready
unfolding bits_in bits_number
returns-in-Sampling-Ready c = grind (arith, common_steps)

pub returns-in-Sampling-NotReady : goal.returns-in-Sampling-NotReady
unfolding bits_in bits_number
returns-in-Sampling-NotReady c = grind (arith, common_steps)

pub returns-in-Sampling-NotReady-2 : goal.returns-in-Sampling-NotReady-2
unfolding bits_in bits_number
returns-in-Sampling-NotReady-2 c = grind (arith, common_steps)
