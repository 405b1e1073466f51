-- `blocks::write` meets its contract.
use Rattle.std.proofs.Common.{arith}
use Rattle.std.proofs.lemmas.Grind.{common_steps}
use Rattle.chars.specs.Word.{word_at}
use Rattle.model.specs.Scan.{counts}
use Rattle.model.specs.Blocks.{waits_for, write_when, write_of}
use Rattle.blocks.proofs.write.Goals as goal

pub returns-in_default : goal.returns-in_default
unfolding write_of write_when waits_for counts word_at
returns-in_default c = grind (arith, common_steps)

pub returns-in_default-2 : goal.returns-in_default-2
unfolding write_of write_when waits_for counts word_at
returns-in_default-2 c = grind (arith, common_steps)

pub returns-in-Some : goal.returns-in-Some
unfolding write_of write_when waits_for counts word_at
returns-in-Some c = grind (arith, common_steps)

pub returns-in_default-pending : goal.returns-in_default-pending
unfolding write_of write_when waits_for counts word_at
returns-in_default-pending c = grind (arith, common_steps)
