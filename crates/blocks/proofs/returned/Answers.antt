-- `blocks::returned` meets its contract.
use Rattle.std.proofs.Common.{arith}
use Rattle.std.proofs.lemmas.Grind.{common_steps}
use Rattle.chars.proofs.PutLaws.{part-most, part-whole}
use Rattle.model.specs.Blocks.{returned}
use Rattle.blocks.proofs.returned.Goals as goal

pub overflow_cast-result : goal.overflow_cast-result
overflow_cast-result c = grind (arith, common_steps, part-most)

pub returns : goal.returns
unfolding returned
returns c = grind (arith, common_steps, part-whole)
