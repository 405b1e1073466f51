-- `points::contacts::contact` meets its contract. Assumes nothing.
use Rattle.std.proofs.Common.{arith}
use Rattle.std.proofs.lemmas.Grind.{common_steps}
use Rattle.model.specs.Contacts.{contact_of}
use Rattle.points.proofs.contacts.contact.Goals as goal

pub returns-then-state-lt2-clause-value : goal.returns-then-state-lt2-clause-value
unfolding contact_of
returns-then-state-lt2-clause-value c = grind (arith, common_steps)

pub returns-else-has_input-clause-value : goal.returns-else-has_input-clause-value
unfolding contact_of
returns-else-has_input-clause-value c = grind (arith, common_steps)
