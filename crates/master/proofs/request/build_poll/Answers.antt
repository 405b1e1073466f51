-- `master::request::build_poll` meets its contract: the latest request again, or the one that is wished with the bit. Assumes nothing.
use native.Mathlib.Omega.{arith}
use Rattle.master.proofs.BuildLaws.{polls-laid, polls-none}
use Rattle.master.proofs.request.build_poll.Goals as goal

pub returns-then-room-lt-MOST : goal.returns-then-room-lt-MOST
returns-then-room-lt-MOST c = polls-none _ _ _ _ _ (omega arith)

pub returns : goal.returns
returns c = polls-laid _ _ _ _ _ _ _ _ _ _ _ (omega arith) (omega arith) (omega arith) c.latest_built-latest.ensures c.keep_poll.ensures c.new.ensures c.lay.ensures.0 c.lay.ensures.1
