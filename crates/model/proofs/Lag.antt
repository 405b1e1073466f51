-- The lag of a stretch: all but a good Set Time ignores it, a good one moves its clock by it and nothing else, and one that is too long refuses.
-- Assumes nothing.
use Prim.Native.Nat.{ℕ, ◌≤◌, ◌<◌}
use mathlib.Core.Path.{◌≡◌, refl, sym, ap, ◌∙◌}
use mathlib.Core.List.{List, []}
use mathlib.Core.Bool.{true, false, ◌&&◌}
use lib.Dec.{eqb}
use native.Mathlib.Omega.{arith}
use borrow.Author.Tests.{eqb-true, le-leb, lt-leb, eq-eqb, ne_eqb}
use Rattle.model.specs.Limits.{most_lag}
use Rattle.model.specs.Frame.{Request, unit_of, broadcast_unit, frame_in, heard_of, request_in}
use Rattle.model.specs.Outcome.{carried_out}
use Rattle.model.specs.Config.{Config}
use Rattle.model.specs.State.{Areas, Inner, State}
use Rattle.model.specs.Fits.{fits}
use Rattle.model.specs.Scan.{tells, refuses, counts}
use Rattle.model.specs.Control.{breaks}
use Rattle.model.specs.Clock.{time_in, time_fits, clock_after, set_time_of}
use Rattle.model.specs.Event.{Stretch, stretch}
use Rattle.model.specs.Step.{timed, internal_of, Made, settled, finished, alone, quiet, internal_step, step_of, started_anew, served, broadcast_of, broadcast_made, framed, followed, judged, make_of}
use Rattle.model.specs.Port.{port_after}
use Rattle.model.specs.Run.{short, Result, shows, moves, decided, result_of, next_of}
use Rattle.model.specs.Refusal.{refused_state}
use Rattle.model.specs.Lag.{good_set, lagging, clock_later, Reaches, own, all, refused_as}
use Rattle.model.specs.declared.Outcome.TheVariants.{NotValid}
use Rattle.model.specs.declared.Answer.TheVariants.{Ended}
use Rattle.model.specs.declared.Clock.{Clock}
use Rattle.model.specs.declared.Hold.{Hold}
use Rattle.model.specs.declared.Core.{Core}
use Rattle.model.specs.declared.Frame.{Frame}
use Rattle.model.specs.declared.Heard.TheVariants.{Whole}
use Rattle.model.proofs.Conditions.{and_left, and_right, and_both, cond-then, cond-else}
use Rattle.model.proofs.PairLaws.{by_heard}
use Rattle.model.proofs.Times.{after-after}
use Rattle.model.proofs.TurnedAway.{works}
use Rattle.model.proofs.Refusals.{refusal_next}

-- ---- what is no good Set Time

module _ (a b : ℕ) where
  set-alike : (k : Clock) (q : Request) → (counts 7 q && time_fits q.body) ≡ false → set_time_of a k q ≡ set_time_of b k q
  unfolding set_time_of
  set-alike k q n = cond-then (counts 7 q) _ (λ e. let f : time_fits q.body ≡ false = rw e at n in rw f)

  module _ (q : Request) (n : good_set q ≡ false) where
    timed-alike : (k : Core) (r : Areas) → (eqb q.function 0x20 && eqb q.command 0x38) ≡ true
        → timed k r (set_time_of a k.clock q) ≡ timed k r (set_time_of b k.clock q)
    unfolding good_set
    timed-alike k r e = ap (timed k r) (set-alike k.clock q (rw e at n))

    internal_alike : (c : Config) (k : Core) (r : Areas) → eqb q.function 0x20 ≡ true → internal_of c k r a q ≡ internal_of c k r b q
    unfolding internal_of
    internal_alike c k r e =
        cond-else (eqb q.command 0x11) _
        (cond-else (eqb q.command 0x30) _
        (cond-else (eqb q.command 0x31) _
        (cond-then (eqb q.command 0x38) _ (λ d. timed-alike k r (and_both e d)))))

    step-alike : (c : Config) (i : Inner) → step_of c i a q ≡ step_of c i b q
    unfolding step_of internal_step
    step-alike c i =
        cond-else (breaks i.core.hold q) _
        (cond-else (eqb q.function 0x04) _
        (cond-then (eqb q.function 0x20) _
        (λ e. cond-else (eqb q.command 0x00) _ (ap (alone i) (internal_alike c i.core i.areas e)))))

    broadcast_alike : (c : Config) (k : Core) (r : Areas) → broadcast_of c k r a q ≡ broadcast_of c k r b q
    unfolding broadcast_of
    broadcast_alike c k r =
        cond-else (eqb q.function 0x20 && eqb q.command 0x11) _
        (cond-then (eqb q.function 0x20 && eqb q.command 0x38) _ (timed-alike k r))

    framed_alike : (c : Config) (i : Inner) → framed c i a q ≡ framed c i b q
    unfolding framed served
    framed_alike c i =
        rw (step-alike c i, broadcast_alike c i.core i.areas)

  followed-alike : (c : Config) (x : Request) (m : Made) → good_set x ≡ false → followed c a x m ≡ followed c b x m
  unfolding followed
  followed-alike c x m n = rw (framed_alike x n c m.inner)

  judged-alike : (c : Config) (i : Inner) (s : List ℕ) → ((f : Frame) → heard_of s ≡ Whole f → good_set (request_in f s) ≡ false)
      → judged c i a s (heard_of s) ≡ judged c i b s (heard_of s)
  unfolding judged good_set request_in
  judged-alike c i s =
      by_heard s (λ h. ((f : Frame) → h ≡ Whole f → good_set (request_in f s) ≡ false) → judged c i a s h ≡ judged c i b s h)
      (λ w n. framed_alike (request_in (frame_in s) s) (n _ refl) c i) (λ n. refl)
      (λ p n.
      ap (followed c a _) (framed_alike _ (rw (p.writes.0, p.writes.1)) c i) ∙ followed-alike c _ _ (rw (p.executes.0, p.executes.1)))
      (λ n. refl)

  -- THE LAW: what is no good Set Time shows and leaves the same with every lag
  pub lag_ignored : (c : Config) (s : State) (t : Stretch) → ((f : Frame) → heard_of t.chars ≡ Whole f → good_set (request_in f t.chars) ≡ false)
      → (result_of c s (stretch (lagging t a)) ≡ result_of c s (stretch (lagging t b)))
      × (next_of c s (stretch (lagging t a)) ≡ next_of c s (stretch (lagging t b)))
  unfolding result_of next_of decided short make_of moves port_after
  lag_ignored c s t n = rw (judged-alike c s.inner t.chars n) (refl, refl)

-- ---- a good Set Time, for this unit and for all

-- m shows what n shows, and keeps what n keeps, but that the clock is later
record Later (lag : ℕ) (m n : Made) : Type 0 where
  answer : m.answer ≡ n.answer
  action : m.action ≡ n.action
  sent : m.sent ≡ n.sent
  inner : m.inner ≡ clock_later lag n.inner

module _ (c : Config) (i : Inner) (q : Request) (g : good_set q ≡ true) where
  good_function : q.function ≡ 0x20
  unfolding good_set
  good_function = eqb-true _ _ (and_left (eqb q.function 0x20) _ (and_left (eqb q.function 0x20 && eqb q.command 0x38) _ g))

  good_command : q.command ≡ 0x38
  unfolding good_set
  good_command = eqb-true _ _ (and_right (eqb q.function 0x20) _ (and_left (eqb q.function 0x20 && eqb q.command 0x38) _ g))

  good_rest : (counts 7 q && time_fits q.body) ≡ true
  unfolding good_set
  good_rest = and_right (eqb q.function 0x20 && eqb q.command 0x38) _ g

  good_taken : (k : Clock) (lag : ℕ) → lag ≤ most_lag → set_time_of lag k q ≡ record { says = tells []; clock = clock_after (time_in q.body) lag }
  unfolding set_time_of
  good_taken k lag l = rw (and_left (counts 7 q) _ good_rest, and_right (counts 7 q) _ good_rest, le-leb lag most_lag l)

  good_late : (k : Clock) (lag : ℕ) → most_lag < lag → set_time_of lag k q ≡ record { says = refuses NotValid; clock = k }
  unfolding set_time_of
  good_late k lag l = rw (and_left (counts 7 q) _ good_rest, and_right (counts 7 q) _ good_rest, lt-leb lag most_lag l)

  -- and that is the time sent without a lag, and then so much time
  pub good_in_turn : (k : Clock) (lag : ℕ) → lag ≤ most_lag
      → set_time_of lag k q ≡ record { says = (set_time_of 0 k q).says; clock = clock_after (set_time_of 0 k q).clock lag }
  good_in_turn k lag l = rw (good_taken k lag l, good_taken k 0 (omega arith), after-after (time_in q.body) 0 lag) (ap (λ (n : ℕ). record { says = tells []; clock = clock_after (time_in q.body) n }) (omega arith))

  step_good : (lag : ℕ) → breaks i.core.hold q ≡ false → step_of c i lag q ≡ alone i (timed i.core i.areas (set_time_of lag i.core.clock q))
  unfolding step_of internal_step internal_of
  step_good lag e = rw (e, good_function, good_command) refl

  broadcast_good : (lag : ℕ) → broadcast_of c i.core i.areas lag q ≡ timed i.core i.areas (set_time_of lag i.core.clock q)
  unfolding broadcast_of
  broadcast_good lag = rw (good_function, good_command) refl

  own_good : unit_of q.address ≡ c.unit → breaks i.core.hold q ≡ false → (lag : ℕ)
      → framed c i lag q ≡ started_anew c q (finished i q (alone i (timed i.core i.areas (set_time_of lag i.core.clock q))))
  unfolding framed served
  own_good u b lag = rw (eq-eqb _ _ u, step_good lag b)

  all_good : c.unit ≤ 0x7FE → unit_of q.address ≡ broadcast_unit → (lag : ℕ)
      → framed c i lag q ≡ broadcast_made i (timed i.core i.areas (set_time_of lag i.core.clock q))
  unfolding framed
  all_good n u lag = rw (ne_eqb (unit_of q.address) c.unit (λ e. omega arith), eq-eqb _ _ u, broadcast_good lag)

  -- with a lag, and without
  later : (lag : ℕ) → lag ≤ most_lag → Reaches c i.core.hold q → Later lag (framed c i lag q) (framed c i 0 q)
  unfolding finished alone timed settled broadcast_made quiet
  later lag l (own u b) =
      rw (own_good u b lag, own_good u b 0, good_in_turn i.core.clock lag l) (record { answer = refl; action = refl; sent = refl; inner = refl })
  later lag l (all n u) =
      rw (all_good n u lag, all_good n u 0, good_in_turn i.core.clock lag l) (record { answer = refl; action = refl; sent = refl; inner = refl })

  late : (lag : ℕ) → most_lag < lag → (r : Reaches c i.core.hold q) → (framed c i lag q).answer ≡ Ended (refused_as r)
  unfolding finished alone timed broadcast_made quiet
  late lag l (own u b) = rw (own_good u b lag, good_late i.core.clock lag l)
  late lag l (all n u) = rw (all_good n u lag, good_late i.core.clock lag l)

-- ---- a stretch that is one, to a unit that works

refused_as-carried : {c : Config} {h : Hold} {q : Request} (r : Reaches c h q) → carried_out (refused_as r) ≡ false
unfolding carried_out
refused_as-carried (own u b) = refl
refused_as-carried (all n u) = refl

module _ (c : Config) (s : State) (t : Stretch) (f : Frame) (heard : heard_of t.chars ≡ Whole f)
    (good : good_set (request_in f t.chars) ≡ true) (r : Reaches c s.inner.core.hold (request_in f t.chars))
    (roomy : short (stretch t) ≡ false) (fit : fits c s ≡ true) where
  made_is : (lag : ℕ) → make_of c s.inner (stretch (lagging t lag)) ≡ framed c s.inner lag (request_in f t.chars)
  unfolding make_of judged
  made_is lag = rw heard

  -- THE LAW: a lag up to the most moves the clock that is left and nothing else: not the reply, the select, the write or the silence
  pub lag-moves : (lag : ℕ) → lag ≤ most_lag
      → (result_of c s (stretch (lagging t lag)) ≡ result_of c s (stretch (lagging t 0)))
      × (next_of c s (stretch (lagging t lag)) ≡ record { inner = clock_later lag (next_of c s (stretch (lagging t 0))).inner; port = (next_of c s (stretch (lagging t 0))).port })
  unfolding short shows moves port_after
  lag-moves lag l =
      let a = works c s (stretch (lagging t lag)) roomy fit in
      let b = works c s (stretch (lagging t 0)) roomy fit in
      let m = later c s.inner (request_in f t.chars) good lag l r in (
        a.0 ∙ rw (made_is lag, m.answer, m.action, m.sent, ← made_is 0) (sym b.0),
        a.1 ∙ rw (b.1, made_is lag, made_is 0, m.answer, m.inner),
      )

  -- THE LAW: a longer one refuses, and leaves what a refusal leaves
  pub lag_late : most_lag < t.lag
      → ((result_of c s (stretch t)).answer ≡ Ended (refused_as r)) × (next_of c s (stretch t) ≡ refused_state t.chars (refused_as r) s)
  unfolding shows
  lag_late l =
      let a : (result_of c s (stretch t)).answer ≡ Ended (refused_as r) =
      ap (λ (x : Result). x.answer) (works c s (stretch t) roomy fit).0 ∙ ap (λ (m : Made). m.answer) (made_is t.lag) ∙ late c s.inner (request_in f t.chars) good t.lag l r in
      (a, (refusal_next c s t (refused_as r) a (refused_as-carried r)).0)
