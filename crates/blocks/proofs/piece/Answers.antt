-- `blocks::piece` meets its contract: a part past the end is empty, one that the end cuts short is the rest.
use Rattle.std.proofs.Common.{arith}
use Rattle.std.proofs.lemmas.Grind.{common_steps}
use Rattle.chars.specs.Put.{part}
use Rattle.blocks.proofs.piece.Goals as goal

pub returns : goal.returns
unfolding part
returns c = grind (arith, common_steps)
