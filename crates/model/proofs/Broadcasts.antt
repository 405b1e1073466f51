-- A frame to all units, carried out or not, leaves select, write and history. Assumes nothing.
use Prim.Native.Nat.{ℕ, ◌≤◌}
use mathlib.Core.Path.{◌≡◌, refl, ap, ◌∙◌}
use mathlib.Core.List.{List}
use mathlib.Core.Bool.{◌&&◌}
use lib.Dec.{eqb}
use native.Mathlib.Omega.{arith}
use borrow.Author.Tests.{eqb-true}
use Rattle.chars.specs.Word.{word_at}
use Rattle.model.specs.Frame.{Request, unit_of, broadcast_unit, frame_in, heard_of, request_in}
use Rattle.model.specs.Config.{Config}
use Rattle.model.specs.State.{Inner, State}
use Rattle.model.specs.Event.{Stretch, stretch}
use Rattle.model.specs.Step.{Step, scanned, changed, timed, Made, quiet, broadcast_of, broadcast_made, framed, judged, make_of}
use Rattle.model.specs.Run.{moves, next_of}
use Rattle.model.specs.Laws.{Untouched}
use Rattle.model.specs.declared.Outcome.{Outcome}
use Rattle.model.specs.declared.Outcome.TheVariants.{NotWhole, CheckWrong, OtherUnit}
use Rattle.model.specs.declared.Answer.TheVariants.{Ended}
use Rattle.model.specs.declared.Core.{Core}
use Rattle.model.proofs.Conditions.{by_cond}
use Rattle.model.proofs.PairLaws.{by_heard, pair-address}
use Rattle.model.proofs.Pairs.{by_pair}
use Rattle.model.proofs.Runs.{by_next}

-- what a function that a broadcast may carry out leaves of the core
record Spares (k : Core) (p : Step) : Type 0 where
  hold : p.core.hold ≡ k.hold
  write : p.core.write ≡ k.write

module _ (c : Config) (i : Inner) (named : c.unit ≤ 0x7FE) (lag : ℕ) where
  Leaves : Made → Type 0
  Leaves m = (m.inner.core.hold ≡ i.core.hold) × (m.inner.core.write ≡ i.core.write) × (m.inner.history ≡ i.history)

  broadcast_spares : (q : Request) → Spares i.core (broadcast_of c i.core i.areas lag q)
  unfolding broadcast_of changed timed scanned
  broadcast_spares q =
      by_cond (Spares i.core) (eqb q.function 0x20 && eqb q.command 0x11) (λ e. record { hold = refl; write = refl })
      (λ e. by_cond (Spares i.core) (eqb q.function 0x20 && eqb q.command 0x38) (λ e. record { hold = refl; write = refl })
      (λ e. record { hold = refl; write = refl }))

  made_leaves : (p : Step) → Spares i.core p → Leaves (broadcast_made i p)
  unfolding Leaves broadcast_made quiet
  made_leaves p s = (s.hold, s.write, refl)

  quiet-leaves : (o : Outcome) → Leaves (quiet (Ended o) i)
  unfolding Leaves quiet
  quiet-leaves o = (refl, refl, refl)

  framed-leaves : (q : Request) → unit_of q.address ≡ broadcast_unit → Leaves (framed c i lag q)
  unfolding framed
  framed-leaves q a =
      by_cond Leaves (eqb (unit_of q.address) c.unit) (λ e. let n = eqb-true (unit_of q.address) c.unit e in absurd (omega arith))
      (λ e. by_cond Leaves (eqb (unit_of q.address) broadcast_unit) (λ e. made_leaves _ (broadcast_spares q)) (λ e. quiet-leaves OtherUnit))

  stretch-leaves : (t : List ℕ) → unit_of (word_at t 0) ≡ broadcast_unit → Leaves (judged c i lag t (heard_of t))
  unfolding judged frame_in request_in
  stretch-leaves t a =
      by_heard t (λ x. Leaves (judged c i lag t x)) (λ w. framed-leaves (request_in (frame_in t) t) a) (quiet-leaves CheckWrong)
      (λ p. let e = ap unit_of (pair-address t _ _ p).0 ∙ a in by_pair c i lag t _ _ p Leaves (λ o t. absurd (omega arith)) (λ n. framed-leaves _ e))
      (quiet-leaves NotWhole)

-- of every state, and a damaged one or one with a short buffer too
pub broadcast_untouched : (c : Config) (s : State) (t : Stretch) → c.unit ≤ 0x7FE → unit_of (word_at t.chars 0) ≡ broadcast_unit
    → Untouched s (next_of c s (stretch t))
unfolding Leaves make_of moves
broadcast_untouched c s t h a =
    by_next (Untouched s) c s (stretch t) (record { hold = refl; write = refl; history = refl })
    (λ f. let l = stretch-leaves c s.inner h t.lag t.chars a in record { hold = l.0; write = l.1; history = l.2 })
