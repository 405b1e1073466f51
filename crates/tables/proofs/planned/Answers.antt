-- `tables::planned` meets its contract. Assumes nothing.
use Rattle.std.proofs.Common.{refl, sym, arith}
use Rattle.chars.proofs.PutLaws.{put-none}
use Rattle.model.specs.Scan.{in_room}
use Rattle.model.specs.Tables.{table_area}
use Rattle.model.specs.Plans.{planned_of}
use Rattle.points.proofs.AnswerLaws.{in_room_lem, fills_refused, fills_as, fills_front}
use Rattle.tables.proofs.Fits.{planned_fit}
use Rattle.tables.proofs.PlannedLaws.{planned_same}
use Rattle.tables.proofs.planned.Goals as goal

pub returns-in_default : goal.returns-in_default
unfolding in_room
returns-in_default c = grind (arith, put-none)

pub returns-in-Ok : goal.returns-in-Ok
unfolding planned_of table_area
returns-in-Ok c =
    let lent = c.in-Some.ensures.cases in
    fills_as (in_room_lem _ _ lent.enough) (fills_front (planned_fit _ _ _ _) lent (fills_as (c.in-Ok.ensures.asks _) (fills_as (planned_same _ _ _ (search sym)) c.planned_scan.ensures)))

pub returns-in-Err : goal.returns-in-Err
unfolding planned_of
returns-in-Err c =
    let lent = c.in-Some.ensures.cases in
    fills_as (in_room_lem _ _ lent.enough) (fills_front (planned_fit _ _ _ _) lent (fills_refused _ (c.in-Err.ensures.refused _) c.refused-in-Err.ensures refl))
