-- Every record that a run holds is stamped with a time that is one: records are stamped by a clock that fits. Assumes nothing.
use Prim.Native.Nat.{ℕ, zero, suc}
use mathlib.Core.Path.{◌≡◌, refl, sym, subst}
use mathlib.Core.List.{List, [], ◌∷◌, ◌++◌}
use mathlib.Core.Bool.{true, ◌&&◌}
use lib.ListN.{take}
use lib.Dec.{eqb, leb}
use Rattle.chars.specs.Put.{part}
use Rattle.model.specs.Config.{Config, within, valid_of}
use Rattle.model.specs.State.{State, fresh_of}
use Rattle.model.specs.Clock.{clock_fits, time_chars}
use Rattle.model.specs.History.{record_chars}
use Rattle.model.specs.Fits.{port_fits, core_fits, areas_fit, history_fits, fits}
use Rattle.model.specs.Event.{Local, set_word, set_value, pulses, store, contact, sample, Event, stretch, elapsed, local}
use Rattle.model.specs.Run.{result_of, next_of, entry_of, trace_from, after, trace}
use Rattle.model.specs.Formed.{AllGiven}
use Rattle.model.specs.Line.{released_in, was_kept, stored_locally, stored_by, stored_in, Lot, stands, struck, lots_stored, lots_standing, ledger_in}
use Rattle.model.specs.Demand3.{held_by}
use Rattle.model.specs.Believe.{stamped, all_stamped}
use Rattle.model.specs.declared.Clock.{Clock}
use Rattle.model.specs.declared.Answer.{Answer}
use Rattle.model.specs.declared.Record.{Record}
use Rattle.model.proofs.Conditions.{by_cond, and_left, and_right, and_both}
use Rattle.model.proofs.SetTime.{good_time_lem}
use Rattle.model.proofs.Valid.{fresh-fits, step_fits}
use Rattle.model.proofs.Ledgers.{ledger}

-- ---- lists of stamped records

stamped_both : (xs ys : List (List ℕ)) → all_stamped xs ≡ true → all_stamped ys ≡ true → all_stamped (xs ++ ys) ≡ true
unfolding all_stamped
stamped_both [] ys e f = f
stamped_both (x ∷ xs) ys e f = and_both (and_left (stamped x) _ e) (stamped_both xs ys (and_right (stamped x) _ e) f)

pub stamped-rest : (xs ys : List (List ℕ)) → all_stamped (xs ++ ys) ≡ true → all_stamped ys ≡ true
unfolding all_stamped
stamped-rest [] ys e = e
stamped-rest (x ∷ xs) ys e = stamped-rest xs ys (and_right (stamped x) _ e)

pub stamped_front : (n : ℕ) (xs : List (List ℕ)) → all_stamped xs ≡ true → all_stamped (take n xs) ≡ true
unfolding all_stamped
stamped_front zero xs e = refl
stamped_front (suc n) [] e = refl
stamped_front (suc n) (x ∷ xs) e = and_both (and_left (stamped x) _ e) (stamped_front n xs (and_right (stamped x) _ e))

-- those that stand of records that are stamped
stamped-standing : (xs : List Lot) → all_stamped (lots_stored xs) ≡ true → all_stamped (lots_standing xs) ≡ true
unfolding all_stamped lots_stored lots_standing
stamped-standing [] e = refl
stamped-standing (stands r ∷ xs) e = and_both (and_left (stamped r) _ e) (stamped-standing xs (and_right (stamped r) _ e))
stamped-standing (struck r ∷ xs) e = stamped-standing xs (and_right (stamped r) _ e)

-- ---- a record that is stored

-- the same time without milliseconds
seconds_fit : (k : Clock) → clock_fits k ≡ true → clock_fits (record { day = k.day; hour = k.hour; minute = k.minute; second = k.second; ms = 0 }) ≡ true
unfolding clock_fits
seconds_fit k e =
    let a = and_left (within 1 366 k.day) _ e in
    let b = and_right (within 1 366 k.day) _ e in
    let c = and_right (leb k.hour 23) _ b in
    let d = and_right (leb k.minute 59) _ c in
    and_both a (and_both (and_left (leb k.hour 23) _ b) (and_both (and_left (leb k.minute 59) _ c) (and_both (and_left (leb k.second 59) _ d) refl)))

record_stamped : (r : Record) (vs : List ℕ) → clock_fits r.clock ≡ true → stamped (record_chars r vs) ≡ true
unfolding stamped record_chars part
record_stamped r vs e = unfold time_chars in good_time_lem _ (seconds_fit r.clock e)

stored_locally_lem : (l : Local) (k : Clock) (a : Answer) (g : ℕ) → clock_fits k ≡ true → all_stamped (stored_locally l k a g) ≡ true
unfolding stored_locally all_stamped
stored_locally_lem (set_word n w) k a g e = refl
stored_locally_lem (set_value n v) k a g e = refl
stored_locally_lem (sample n) k a g e = refl
stored_locally_lem (pulses n p) k a g e = refl
stored_locally_lem (contact n s) k a g e = refl
stored_locally_lem (store f x vs) k a g e =
    by_cond (λ (rs : List (List ℕ)). all_stamped rs ≡ true) (was_kept a && eqb f.0 g) (λ b. and_both (record_stamped (record { event = x; clock = k }) vs e) refl) (λ b. refl)

stored_by_lem : (e : Event) (k : Clock) (a : Answer) (g : ℕ) → clock_fits k ≡ true → all_stamped (stored_by e k a g) ≡ true
unfolding stored_by all_stamped
stored_by_lem (stretch s) k a g h = refl
stored_by_lem (elapsed ms) k a g h = refl
stored_by_lem (local l) k a g h = stored_locally_lem l k a g h

-- ---- in a run

pub fitting-clock : (c : Config) (s : State) → fits c s ≡ true → clock_fits s.inner.core.clock ≡ true
unfolding fits core_fits
fitting-clock c s e =
    and_left (clock_fits s.inner.core.clock) _ (and_left (core_fits c s.inner.core) _ (and_right (port_fits s.port) _ (and_right (valid_of c) _ e)))

pub fitting-history : (c : Config) (s : State) → fits c s ≡ true → history_fits c s.inner.history ≡ true
unfolding fits
fitting-history c s e =
    and_right (areas_fit c s.inner.areas) _ (and_right (core_fits c s.inner.core) _ (and_right (port_fits s.port) _ (and_right (valid_of c) _ e)))

stored-stamped : (c : Config) (s : State) (es : List Event) (g : ℕ) → AllGiven es → fits c s ≡ true → all_stamped (stored_in (trace_from c s es) g) ≡ true
unfolding trace_from stored_in entry_of
stored-stamped c s [] g all h = unfold all_stamped in refl
stored-stamped c s (e ∷ es) g all h =
    stamped_both _ _ (stored_by_lem e s.inner.core.clock (result_of c s e).answer g (fitting-clock c s h))
    (stored-stamped c (next_of c s e) es g all.1 (step_fits c s e all.0 h))

-- what is held was stored
pub run_stamped : (c : Config) (es : List Event) (g : ℕ) → valid_of c ≡ true → AllGiven es → all_stamped (held_by (after c es) g) ≡ true
run_stamped c es g v all =
    let all-stored = stored-stamped c (fresh_of c) es g all (fresh-fits c v) in
    let k = ledger c g es in
    stamped-rest (released_in c (trace c es) g) (held_by (after c es) g)
    (subst (λ (rs : List (List ℕ)). all_stamped rs ≡ true) k.left (stamped-standing (ledger_in c (trace c es) g) (subst (λ (rs : List (List ℕ)). all_stamped rs ≡ true) (sym k.stored) all-stored)))
