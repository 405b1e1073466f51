-- `checkword::evened` meets its contract, by whether the ones of both together are odd.
-- Assumes nothing.
use Rattle.checkword.specs.Alike.{parity}
use Rattle.checkword.proofs.Parity.{odd_changed, even_kept}
use Rattle.checkword.proofs.evened.Goals as goal

pub returns-then-d-eq1 : goal.returns-then-d-eq1
unfolding parity
returns-then-d-eq1 c = odd_changed c.args.v c.args.d c.if-d-eq1.true

pub returns : goal.returns
unfolding parity
returns c = even_kept c.args.v c.args.d c.if-d-eq1.false
