-- `serve::dispatch::left` meets its contract. Assumes nothing.
use Rattle.std.proofs.Common.{arith}
use Rattle.std.proofs.lemmas.Grind.{common_steps}
use Rattle.model.specs.Config.{within}
use Rattle.serve.proofs.dispatch.left.Goals as goal

pub returns-in-Unknown : goal.returns-in-Unknown
unfolding within
returns-in-Unknown c = grind (arith, common_steps)

pub returns-in_default : goal.returns-in_default
unfolding within
returns-in_default c = grind (arith, common_steps)
