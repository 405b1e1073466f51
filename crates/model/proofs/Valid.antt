-- A unit that fits goes on fitting: a fresh one of a valid configuration does, and each event keeps it so. Assumes nothing.
use Prim.Native.Nat.{ℕ}
use mathlib.Core.Path.{◌≡◌, refl}
use mathlib.Core.List.{List, [], ◌∷◌}
use mathlib.Core.Bool.{Bool, true, ◌&&◌}
use lib.ListN.{length, length-replicate}
use lib.Dec.{eqb}
use native.Mathlib.Omega.{arith}
use borrow.Author.Tests.{leb-true, le-leb, eq-eqb}
use Rattle.model.specs.Limits.{most_means}
use Rattle.model.specs.Frame.{master_of}
use Rattle.model.specs.Config.{Config, valid_of, within, place_of}
use Rattle.model.specs.State.{Areas, State, fresh_core, fresh_areas, fresh_history, fresh_port, fresh_of}
use Rattle.model.specs.Means.{areas_sampled}
use Rattle.model.specs.Clock.{clock_fits}
use Rattle.chars.specs.Put.{part}
use Rattle.chars.specs.Gather.{up_from, every}
use Rattle.model.specs.Plans.{empty_plans, planned, plans_fit}
use Rattle.model.specs.History.{record_chars, spared_in}
use Rattle.model.specs.Fits.{master_fits, hold_fits, write_fits, core_fits, memory_fits, file_fits, history_fits, areas_fit, port_fits, fits, samples_fit}
use Rattle.model.specs.Event.{Event, stretch, elapsed, local}
use Rattle.model.specs.Step.{make_of}
use Rattle.model.specs.Port.{silent_after, port_heard, port_after}
use Rattle.model.specs.Run.{moves, next_of, after}
use Rattle.model.specs.Formed.{Given, AllGiven}
use Rattle.model.specs.declared.Outcome.{Outcome}
use Rattle.model.specs.declared.Answer.{Answer}
use Rattle.model.specs.declared.Answer.TheVariants.{Ended, Storing, Sampling}
use Rattle.model.specs.declared.Core.{Core}
use Rattle.model.specs.declared.Port.{Port}
use Rattle.model.proofs.Conditions.{and_left, and_right, and_both, every-up_from, up_from-every}
use Rattle.model.proofs.FileLaws.{held_none, stored-kept, stored-swapped}
use Rattle.model.proofs.AreaLaws.{LeavesValues, Replans, stay, made}
use Rattle.model.proofs.PlanLaws.{plans_fit_lem}
use Rattle.model.proofs.SampleLaws.{taken-fits, none-fits}
use Rattle.model.proofs.PartFits.{heard-fits, set_time_fits, clock_after-fits, control_fits, held_after-fits, write-fits, waits_after-fits, FilesFit, history-fits, told-fits, forgotten_fits, kept-fits, swapped_fits}
use Rattle.model.proofs.Parts.{Parts, CoreHas, InnerHas, Lasts, make_has}
use Rattle.model.proofs.Runs.{by_next, by_run}

-- ---- the port

heard-port : (p : Port) (s : List ℕ) (o : Outcome) → port_fits p ≡ true → port_fits (port_heard p s o) ≡ true
unfolding port_fits port_heard
heard-port p [] o h = h
heard-port p (x ∷ s) o h = refl

pub port-fits : (p : Port) (e : Event) (a : Answer) → port_fits p ≡ true → port_fits (port_after p e a) ≡ true
unfolding port_fits port_after silent_after
port-fits p (stretch s) (Ended o) h = heard-port p s.chars o h
port-fits p (stretch s) (Storing r) h = h
port-fits p (stretch s) (Sampling r) h = h
port-fits p (elapsed ms) a h = omega (arith, le-leb, leb-true)
port-fits p (local l) a h = h

-- ---- fits, part by part

abbrev fitting : Config → Parts
fitting c =
    record {
      clock = λ k. clock_fits k ≡ true;
      hold = λ h. hold_fits c h ≡ true;
      write = λ w. write_fits w ≡ true;
      areas = λ a. areas_fit c a ≡ true;
      history = λ h. history_fits c h ≡ true;
      request = λ q. master_fits (master_of q.address) ≡ true;
      event = Given;
    }

plans-left : (table : List ℕ) (a b : Areas) → Replans table a b → plans_fit a.plans ≡ true → plans_fit b.plans ≡ true
plans-left table a b (stay e t) h = rw e h
plans-left table a b (made e) h = rw e (plans_fit_lem table _)

leaves_fit : (c : Config) (a b : Areas) → LeavesValues a b → Replans c.inputs a b → areas_fit c a ≡ true → areas_fit c b ≡ true
unfolding areas_fit
leaves_fit c a b s r e =
    let rest : Areas → Bool = λ x. eqb (length x.block) c.block && every (samples_fit c x.samples) (up_from 0 most_means) in
    and_both {a = rest b} (rw (s.block, s.samples) (and_left (rest a) _ e)) (plans-left c.inputs a b r (and_right (rest a) _ e))

-- a sample adds one, or takes the place of the oldest
sampled_fit : (c : Config) (a : Areas) (n : ℕ) → areas_fit c a ≡ true → areas_fit c (areas_sampled c a n) ≡ true
unfolding areas_fit areas_sampled
sampled_fit c a n e =
    let lent = eqb (length a.block) c.block in
    let many = every (samples_fit c a.samples) (up_from 0 most_means) in
    let both = and_left (lent && many) _ e in
    and_both (and_both (and_left lent many both)
    (up_from-every _ 0 most_means (λ p low high. taken-fits c a (place_of c n) p (every-up_from _ 0 most_means (and_right lent many both) p low high))))
    (and_right (lent && many) _ e)

fitting_lasts : (c : Config) → Lasts c (fitting c)
unfolding hold_fits write_fits areas_fit
fitting_lasts c =
    record {
      heard = λ s q g e. rw e (heard-fits s.chars g);
      set-time = set_time_fits;
      clock-after = λ k ms h. clock_after-fits k ms;
      free = refl;
      control = control_fits c;
      held_after = held_after-fits c;
      no_write = refl;
      write = write-fits;
      waits-after = waits_after-fits;
      leaves = leaves_fit c;
      valued = λ a n v g e h. h;
      sampled = λ a n g e h. sampled_fit c a n.0 h;
      told = told-fits c;
      forgotten = forgotten_fits c;
      kept = λ h f r vs e g. let k = stored-kept c h f vs e in kept-fits c h f (record_chars r vs) k.taken.equipped k.room g;
      swapped = λ h f r vs e g. let k = stored-swapped c h f vs e in swapped_fits c h f (spared_in h.memory f) (record_chars r vs) (omega (arith, k.full, k.free)) g;
    }

-- the numbers that fits tests, and the tests
record Fit (c : Config) (s : State) : Type 0 where
  valid : valid_of c ≡ true
  port : port_fits s.port ≡ true
  inner : InnerHas (fitting c) s.inner

fit_core : (c : Config) (k : Core) → core_fits c k ≡ true → CoreHas (fitting c) k
unfolding core_fits
fit_core c k e =
    let r = and_right (clock_fits k.clock) _ e in
    record { clock = and_left (clock_fits k.clock) _ e; hold = and_left (hold_fits c k.hold) _ r; write = and_right (hold_fits c k.hold) _ r }

fit : (c : Config) (s : State) → fits c s ≡ true → Fit c s
unfolding fits
fit c s e =
    let rest = and_right (valid_of c) _ e in
    let inner = and_right (port_fits s.port) _ rest in
    let parts = and_right (core_fits c s.inner.core) _ inner in
    record {
      valid = and_left (valid_of c) _ e;
      port = and_left (port_fits s.port) _ rest;
      inner = record {
        core = fit_core c s.inner.core (and_left (core_fits c s.inner.core) _ inner);
        areas = and_left (areas_fit c s.inner.areas) _ parts;
        history = and_right (areas_fit c s.inner.areas) _ parts;
      };
    }

fit_fits : (c : Config) (s : State) → Fit c s → fits c s ≡ true
unfolding fits core_fits
fit_fits c s f =
    let k = f.inner.core in
    and_both f.valid (and_both f.port (and_both (and_both k.clock (and_both k.hold k.write)) (and_both f.inner.areas f.inner.history)))

-- ---- a fresh unit, a step, a run

fresh-files : (c : Config) → FilesFit c fresh_history.files
unfolding fresh_history FilesFit file_fits
fresh-files c f h = rw (held_none 32 f) (omega (arith, le-leb))

fresh-inner : (c : Config) → InnerHas (fitting c) (fresh_of c).inner
unfolding fresh_of fresh_core fresh_areas fresh_history clock_fits within hold_fits write_fits areas_fit memory_fits empty_plans planned plans_fit part every
fresh-inner c =
    record {
      core = record { clock = refl; hold = refl; write = refl };
      areas = and_both (and_both (eq-eqb _ _ (length-replicate {A = ℕ} c.block 0)) (up_from-every _ 0 most_means (λ p low high. none-fits c p))) refl;
      history = history-fits c _ _ _ (fresh-files c) refl;
    }

pub fresh-fits : (c : Config) → valid_of c ≡ true → fits c (fresh_of c) ≡ true
unfolding fresh_port port_fits
fresh-fits c v = fit_fits c (fresh_of c) (record { valid = v; port = unfold fresh_of in refl; inner = fresh-inner c })

moved-fits : (c : Config) (s : State) (e : Event) → Given e → Fit c s → Fit c (moves s.port e (make_of c s.inner e))
unfolding moves
moved-fits c s e g f =
    record {
      valid = f.valid;
      port = port-fits s.port e _ f.port;
      inner = make_has c (fitting c) (fitting_lasts c) s.inner f.inner e g;
    }

-- an event leaves a unit that fits fitting
pub step_fits : (c : Config) (s : State) (e : Event) → Given e → fits c s ≡ true → fits c (next_of c s e) ≡ true
step_fits c s e g h = by_next (λ t. fits c t ≡ true) c s e h (λ b. fit_fits c _ (moved-fits c s e g (fit c s h)))

-- so 17 is never the answer for a state that a run comes to
pub run_fits : (c : Config) (es : List Event) → valid_of c ≡ true → AllGiven es → fits c (after c es) ≡ true
run_fits c es v g =
    (by_run (λ xs s. AllGiven xs × (fits c s ≡ true)) c (λ s e xs h. (h.0.1, step_fits c s e h.0.0 h.1)) (fresh_of c) es (g, fresh-fits c v)).1
