-- Every refusal changes what its outcome says and nothing else: of a stretch, and of a local event. Assumes nothing.
use Rattle.std.specs.Prelude.{None}
use mathlib.Core.Path.{◌≡◌, refl, sym, ap, ◌∙◌}
use mathlib.Core.Bool.{false}
use lib.Dec.{leb}
use borrow.Author.Tests.{le-leb}
use Rattle.model.specs.Frame.{frame_in, request_in}
use Rattle.model.specs.Outcome.{number_of, carried_out}
use Rattle.model.specs.Config.{Config}
use Rattle.model.specs.State.{Inner, State}
use Rattle.model.specs.Fits.{fits}
use Rattle.model.specs.Event.{Stretch, Event, stretch}
use Rattle.model.specs.Step.{make_of}
use Rattle.model.specs.Port.{sent_chars, port_after}
use Rattle.model.specs.Run.{short, Result, turned_away, shows, moves, result_of, next_of}
use Rattle.model.specs.Refusal.{refused_state, Refused, arrives, succeeded, was_full, refused_local, RefusedLocally, LocallyRefused}
use Rattle.model.specs.declared.Outcome.{Outcome}
use Rattle.model.specs.declared.Outcome.TheVariants.{NotConfigured, BufferShort}
use Rattle.model.specs.declared.Answer.TheVariants.{Ended}
use Rattle.model.proofs.Conditions.{by_bool}
use Rattle.model.proofs.RefusedStretch.{judged_meets}
use Rattle.model.proofs.LocalRefusals.{local_meets}
use Rattle.model.proofs.TurnedAway.{short_away, unfit_away, works}

-- ---- what a working unit makes

-- THE THEOREM: a stretch refused by o leaves core, areas and history as o says, operates nothing, and is answered where o says so
pub refusal : (c : Config) (i : Inner) (t : Stretch) (o : Outcome) → (make_of c i (stretch t)).answer ≡ Ended o
    → carried_out o ≡ false → Refused (request_in (frame_in t.chars) t.chars) o i (make_of c i (stretch t))
unfolding make_of
refusal c i t o = (judged_meets c i t.lag t.chars).refuses o

-- and so for every other event: only a full file leaves a trace, bit 3
pub refusal_local : (c : Config) (i : Inner) (e : Event) → arrives e ≡ false → succeeded (make_of c i e).answer ≡ false
    → RefusedLocally i e (make_of c i e)
refusal_local c i e a = (local_meets c i e a).refuses

-- ---- the whole state

module _ (c : Config) (s : State) (t : Stretch) (o : Outcome) (a : (result_of c s (stretch t)).answer ≡ Ended o) where
  next_away : (x : Outcome) → leb (number_of x) 16 ≡ false → (result_of c s (stretch t) ≡ turned_away x) × (next_of c s (stretch t) ≡ s)
      → (next_of c s (stretch t) ≡ refused_state t.chars o s) × ((result_of c s (stretch t)).action ≡ None)
  unfolding turned_away refused_state
  next_away x h r =
      let f : Ended x ≡ Ended o = sym (ap (λ (y : Result). y.answer) r.0) ∙ a in
      let g : x ≡ o = cc in
      let k : leb (number_of o) 16 ≡ false = rw (← g) h in
      (rw k r.1, ap (λ (y : Result). y.action) r.0)

  next_made : carried_out o ≡ false
      → (result_of c s (stretch t) ≡ shows s.port (make_of c s.inner (stretch t))) × (next_of c s (stretch t) ≡ moves s.port (stretch t) (make_of c s.inner (stretch t)))
      → (next_of c s (stretch t) ≡ refused_state t.chars o s) × ((result_of c s (stretch t)).action ≡ None)
  unfolding shows moves port_after refused_state
  next_made n r =
      let f : (make_of c s.inner (stretch t)).answer ≡ Ended o = sym (ap (λ (y : Result). y.answer) r.0) ∙ a in
      let w = refusal c s.inner t o f n in
      (r.1 ∙ rw (le-leb (number_of o) 16 w.row, f, w.inner), ap (λ (y : Result). y.action) r.0 ∙ w.action)

  -- a stretch refused by o, with 17 and 18 too: the state after it, port and all, is what o makes of the state before it
  pub refusal_next : carried_out o ≡ false → (next_of c s (stretch t) ≡ refused_state t.chars o s) × ((result_of c s (stretch t)).action ≡ None)
  refusal_next n =
      let e : Event = stretch t in
      by_bool (short e) (λ b. next_away BufferShort refl (short_away c s e b))
      (λ b. by_bool (fits c s) (λ d. next_made n (works c s e b d)) (λ d. next_away NotConfigured refl (unfit_away c s e b d)))

module _ (c : Config) (s : State) (e : Event) where
  local_away : (x : Outcome) → (result_of c s e ≡ turned_away x) × (next_of c s e ≡ s) → LocallyRefused c s e
  unfolding turned_away refused_local was_full
  local_away x r = record { state = rw (r.0, r.1); action = rw r.0; reply = rw r.0 }

  local_made_lem : arrives e ≡ false → succeeded (result_of c s e).answer ≡ false
      → (result_of c s e ≡ shows s.port (make_of c s.inner e)) × (next_of c s e ≡ moves s.port e (make_of c s.inner e))
      → LocallyRefused c s e
  unfolding shows moves sent_chars
  local_made_lem a n r =
      let k : succeeded (make_of c s.inner e).answer ≡ false = rw r.0 at n in
      let w = refusal_local c s.inner e a k in
      record {
        state = rw (r.0, r.1, w.port s.port, w.inner);
        action = rw r.0 w.action;
        reply = rw (r.0, w.sent);
      }

  -- a refused event that is no stretch, with 17 too
  pub refusal_local-next : arrives e ≡ false → succeeded (result_of c s e).answer ≡ false → LocallyRefused c s e
  refusal_local-next a n =
      by_bool (short e) (λ b. local_away BufferShort (short_away c s e b))
      (λ b. by_bool (fits c s) (λ d. local_made_lem a n (works c s e b d)) (λ d. local_away NotConfigured (unfit_away c s e b d)))
