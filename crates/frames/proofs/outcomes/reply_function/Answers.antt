-- `frames::outcomes::reply_function` meets its contract: the bits that are added leave a character.
-- Assumes nothing.
use native.Mathlib.Omega.{arith}
use Rattle.model.specs.Outcome.{reply_function}
use Rattle.frames.proofs.DataLaws.{bits_most}
use Rattle.frames.proofs.outcomes.reply_function.Goals as goal

pub overflow_add-result : goal.overflow_add-result
overflow_add-result c = omega (arith, c.bits.ensures, bits_most c.sending.result)

pub returns : goal.returns
unfolding reply_function
returns c = rw (c.bits.ensures, c.sending.ensures)
