-- `board::osturdam_valid` meets its contract. Assumes nothing.
use mathlib.Core.Path.{◌∙◌}
use Rattle.std.proofs.Common.{rules}
use Rattle.board.proofs.ValidLaws.{fresh-taken}
use Rattle.board.proofs.osturdam_valid.Goals as goal

pub returns : goal.returns
returns c =
    rw (c.from.ensures, c.fits.ensures, fresh-taken _ c.fresh.ensures (c.from-long.ensures ∙ c.length_of.ensures) c.room_of-room.ensures) (search rules)
