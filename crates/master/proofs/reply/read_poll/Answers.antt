-- `master::reply::read_poll` meets its contract. Assumes nothing.
use mathlib.Core.Path.{refl, ap, ◌∙◌}
use Rattle.model.specs.Frame.{Request}
use Rattle.model.specs.Poll.{read_for}
use Rattle.master.specs.Polled.{address_in}
use Rattle.master.proofs.ReplyLaws.{poll-asked}
use Rattle.master.proofs.reply.read_poll.Goals as goal

pub returns : goal.returns
unfolding address_in
returns c = c.read_for.ensures ∙ ap (λ (q : Request). read_for q c.args.reply.now) (poll-asked c.args.poll.now _ _ _ c.new-frame.ensures c.word_at.ensures refl c.requires)
