-- `master::reply::asked_body` meets its contract. Assumes nothing.
use Rattle.master.proofs.SettleLaws.{part_from}
use Rattle.master.proofs.reply.asked_body.Goals as goal

pub returns : goal.returns
returns c = part_from c.args.poll.now 10 _ _ c.from.ensures
