-- Two ends of a call that meet its contract are equal: what each public function promises says everything. Assumes nothing.
use mathlib.Core.Path.{◌≡◌, sym, ◌∙◌}
use Rattle.chars.specs.One.{One}
use Prim.Native.Nat.{ℕ}
use mathlib.Core.List.{List}
use Rattle.model.specs.Control.{Controlled}
use Rattle.control.specs.declared.Ran.{Ran}
use Rattle.control.specs.Runs.{ControlPromise, ran_of}
use Rattle.control.proofs.control.Reads as control
use Rattle.control.proofs.breaks_off.Reads as breaks-off
use Rattle.control.proofs.held_after.Reads as held_after

ran_is : {entry exit : List ℕ} {m : Controlled} {r : Ran} → ControlPromise entry exit m r → r ≡ ran_of m
ran_is t = rw (← t.ended, ← t.acted, ← t.held, ← t.counted)

one_run : {entry x y : List ℕ} {m : Controlled} {r s : Ran} → ControlPromise entry x m r → ControlPromise entry y m s → (x ≡ y) × (r ≡ s)
one_run t u = (t.written ∙ sym u.written, ran_is t ∙ sym (ran_is u))

pub one_control : One control.Post (λ κ r s. r)
one_control κ a x y s t p q = (one_run p q).1

pub one_control_reply : One control.Post (λ κ r s. s.1.1.1.1.0.now)
one_control_reply κ a x y s t p q = (one_run p q).0

pub one-breaks_off : One breaks-off.Post (λ κ r s. r)
one-breaks_off κ a x y s t p q = p ∙ sym q

pub one-held-after : One held_after.Post (λ κ r s. r)
one-held-after κ a x y s t p q = p ∙ sym q
