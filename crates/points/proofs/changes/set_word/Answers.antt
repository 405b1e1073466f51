-- `points::changes::set_word` meets its contract. Assumes nothing.
use Rattle.std.proofs.Common.{arith}
use Rattle.std.proofs.lemmas.Grind.{common_steps}
use Rattle.model.specs.Inputs.{set_word_of}
use Rattle.points.proofs.changes.set_word.Goals as goal

pub returns-then-is_settable : goal.returns-then-is_settable
unfolding set_word_of
returns-then-is_settable c = grind (arith, common_steps)

pub returns-else-has_input : goal.returns-else-has_input
unfolding set_word_of
returns-else-has_input c = grind (arith, common_steps)
