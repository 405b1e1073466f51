-- Which control requests say nothing. Assumes nothing.
use Rattle.std.specs.Prelude.{Some}
use mathlib.Core.Path.{◌≡◌, refl}
use mathlib.Core.List.{[]}
use mathlib.Core.Bool.{Bool, true, false, cond}
use Rattle.model.specs.Scan.{tells}
use Rattle.model.specs.Control.{Controlled, keeps, is_of, operate_when, reset_when}
use Rattle.model.specs.declared.Outcome.TheVariants.{SelectTimedOut, SelectHeld, NothingWaits}
use Rattle.model.specs.declared.Master.{Master}
use Rattle.model.specs.declared.Hold.{Hold}
use Rattle.model.specs.declared.Hold.TheVariants.{Free, Held, TimedOut}

silent_either : (b : Bool) (m n : Controlled) → m.says.chars ≡ [] → n.says.chars ≡ [] → (cond b m n).says.chars ≡ []
silent_either true m n p q = p
silent_either false m n p q = q

pub operate_silent : (h : Hold) (m : Master) → (operate_when h m).says.chars ≡ []
unfolding operate_when
operate_silent Free m = refl
operate_silent (TimedOut p) m = silent_either (is_of p m) (keeps SelectTimedOut Free) (keeps NothingWaits (TimedOut p)) refl refl
operate_silent (Held s) m =
    silent_either
    (is_of s.master m)
    (record { says = tells []; action = Some (record { output = s.output; close = s.close }); hold = Free })
    (keeps SelectHeld (Held s))
    refl
    refl

pub reset-silent : (h : Hold) → (reset_when h).says.chars ≡ []
unfolding reset_when
reset-silent Free = refl
reset-silent (TimedOut p) = refl
reset-silent (Held s) = refl
