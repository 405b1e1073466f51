-- `board::osturdam_stretch` meets its contract. Assumes nothing.
use Rattle.std.proofs.Common.{rules}
use Rattle.board.proofs.ToldLaws.{turned_told}
use Rattle.board.proofs.osturdam_stretch.Goals as goal

pub returns : goal.returns
returns c =
    record {
      turn = c.stretch-turn.result;
      serves = c.stretch-turn.ensures;
      number = c.from.ensures;
      told = turned_told c.stretch-turn.result (search rules) (search rules) c.action_numbers-action.ensures.0 c.action_numbers-action.ensures.1;
    }
