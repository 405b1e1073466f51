-- `calculations::scan` meets its contract: by the table of the numbers that are equipped now. Assumes nothing.
use Rattle.std.proofs.Common.{arith}
use Rattle.chars.proofs.PutLaws.{put-none}
use Rattle.model.specs.Scan.{in_room}
use Rattle.points.proofs.AnswerLaws.{in_room_lem, fills_as, fills_front}
use Rattle.calculations.proofs.Fits.{calculations_fit}
use Rattle.calculations.proofs.scan.Goals as goal

pub returns-in_default : goal.returns-in_default
unfolding in_room
returns-in_default c = grind (arith, put-none)

pub returns : goal.returns
returns c =
    let lent = c.in-Some.ensures.cases in
    fills_as (in_room_lem _ _ lent.enough) (fills_front (calculations_fit _ _ _) lent (rw c.equipped_now.ensures at c.scan_by.ensures))
