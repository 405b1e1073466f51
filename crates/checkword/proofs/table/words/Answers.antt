-- `checkword::table::words` meets its contract: one computed test of all 256 words against the division bit by bit.
-- Assumes nothing.
use mathlib.Core.Path.{refl}
use Rattle.checkword.specs.Check.{bit_step, bit_steps}
use Rattle.checkword.specs.Table.{rule}
use Rattle.checkword.proofs.table.words.Goals as goal

pub returns : goal.returns
unfolding rule bit_steps bit_step
returns c = refl
