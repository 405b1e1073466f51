-- `serve::ending::status_in` meets its contract. Assumes nothing.
use Rattle.std.proofs.Common.{arith}
use Rattle.std.proofs.lemmas.Grind.{common_steps}
use Rattle.model.specs.Step.{status_of}
use Rattle.serve.proofs.ending.status_in.Goals as goal

pub returns : goal.returns
unfolding status_of
returns c = grind (arith, common_steps)
