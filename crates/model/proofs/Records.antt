-- Demand 3, records: over every run from a fresh unit, what a file stored, with the dropped struck out, is what it released followed by what it holds.
-- Assumes nothing.
use Prim.Native.Nat.{ℕ}
use mathlib.Core.Path.{◌≡◌, refl, sym, ap, ap₂, ◌∙◌}
use mathlib.Core.Logic.{◌⊎◌, inl, inr}
use mathlib.Core.List.{List, [], ◌∷◌}
use mathlib.Core.Bool.{Bool, true, false, cond, ◌&&◌}
use lib.Dec.{eqb}
use native.Mathlib.Omega.{arith}
use borrow.Author.Tests.{eqb-true}
use Rattle.model.specs.Config.{Config}
use Rattle.model.specs.State.{State, fresh_history, fresh_of}
use Rattle.model.specs.Fits.{fits}
use Rattle.model.specs.Control.{is_of}
use Rattle.model.specs.Event.{Event}
use Rattle.model.specs.Step.{make_of}
use Rattle.model.specs.Run.{short, Result, turned_away, shows, moves, result_of, next_of, Entry, entry_of, after_from, trace_from, after, trace}
use Rattle.model.specs.Formed.{Formed}
use Rattle.model.specs.Line.{Shown, told, forgot, other, shown_by, shown, Latest, nobody, gave, latest_after, released_by, latest_from, stored_by, drops_by, latest_in}
use Rattle.model.specs.Demand3.{Acknowledged, Unshown, none, one, Came, remembered_as}
use Rattle.model.specs.declared.Outcome.{Outcome}
use Rattle.model.specs.declared.Outcome.TheVariants.{NotConfigured, BufferShort}
use Rattle.model.specs.declared.Master.{Master}
use Rattle.model.proofs.Conditions.{by_bool}
use Rattle.model.proofs.Shape.{fresh_formed, step_formed, run_formed}
use Rattle.model.proofs.TurnedAway.{short_away, unfit_away, works}
use Rattle.model.proofs.Shown.{asked}
use Rattle.model.proofs.Releases.{Matches, Moved, same-master}
use Rattle.model.proofs.Stores.{away_fine, made_fine}

-- ---- one event of a run

module _ (c : Config) (s : State) (l : Latest) (t : Matches s.inner.history l) (f : Formed c s) (e : Event) where
  -- what the event showed and stored, by its result, and what is kept then
  Moves : Result → State → Type 0
  Moves r n = Moved l s.inner.history (shown_by c e r.reply) (drops_by e r.answer) (stored_by e s.inner.core.clock r.answer) n.inner.history

  away_moves : (o : Outcome) → Moves (turned_away o) s
  unfolding Moves turned_away
  away_moves o = away_fine c l s.inner s.port.mark t o e

  made_moves : Moves (shows s.port (make_of c s.inner e)) (moves s.port e (make_of c s.inner e))
  unfolding Moves shows moves
  made_moves = made_fine c l s.inner s.port.mark t f.records f.files f.dropped e

  event-moves : Moves (result_of c s e) (next_of c s e)
  event-moves =
      by_bool (short e) (λ a. let h = short_away c s e a in rw (h.0, h.1) (away_moves BufferShort))
      (λ a. by_bool (fits c s) (λ b. let h = works c s e a b in rw (h.0, h.1) made_moves)
      (λ b. let h = unfit_away c s e a b in rw (h.0, h.1) (away_moves NotConfigured)))

  -- an event moves the records as the line shows, and memory and line match again
  pub moved_on : Moved l s.inner.history (shown c (entry_of c s e)) (drops_by e (result_of c s e).answer) (stored_by e s.inner.core.clock (result_of c s e).answer)
      (next_of c s e).inner.history
  unfolding Moves shown entry_of
  moved_on = event-moves

-- ---- a run

module _ (c : Config) where
  matches_from : (s : State) (l : Latest) (es : List Event) → Matches s.inner.history l → Formed c s
      → Matches (after_from c s es).inner.history (latest_from c l (trace_from c s es))
  unfolding trace_from after_from latest_from
  matches_from s l [] t f = t
  matches_from s l (e ∷ es) t f =
      matches_from (next_of c s e) (latest_after l (shown c (entry_of c s e))) es (moved_on c s l t f e).matches (step_formed c s e f)

  pub fresh_matches : Matches (fresh_of c).inner.history nobody
  unfolding fresh_of fresh_history
  fresh_matches = record { latest = refl; holds = tt }

  pub run_matches : (es : List Event) → Matches (after c es).inner.history (latest_in c (trace c es))
  run_matches es = matches_from (fresh_of c) nobody es fresh_matches (fresh_formed c)

  -- what the unit remembers is what the line showed last
  pub remembered : (es : List Event) → latest_in c (trace c es) ≡ remembered_as (after c es).inner.history.memory (after c es).inner.history.files
  remembered es = (run_matches es).latest

-- ---- the latest history reply is an entry of the trace

module _ (c : Config) {m : Master} {f : ℕ} {ys : List ℕ} {rs : List (List ℕ)} where
  one_more : (x : Entry) {xs : List Entry} → Came c xs m f ys rs → Came c (x ∷ xs) m f ys rs
  one_more x k =
      record {
        earlier = x ∷ k.earlier;
        reply = k.reply;
        later = k.later;
        parts = ap (λ (z : List Entry). x ∷ z) k.parts;
        acknowledged = k.acknowledged;
        carrying = k.carrying;
        unshown = k.unshown;
      }

  came_now : (l : Latest) (x : Entry) (xs : List Entry) (y : Shown) → shown c x ≡ y → latest_after l y ≡ gave m f ys rs → Unshown c xs
      → ((l ≡ gave m f ys rs) × Unshown c (x ∷ xs)) ⊎ Came c (x ∷ xs) m f ys rs
  unfolding latest_after
  came_now l x xs (told p h a zs ps) e k u =
      inr (record { earlier = []; reply = x; later = xs; parts = refl; acknowledged = a; carrying = (cc); unshown = u })
  came_now l x xs forgot e k u = let z : ◌≡◌ {A = ℕ} 0 1 = cc in absurd (omega arith)
  came_now l x xs other e k u = inl (k, one e u)

  came_from : (l : Latest) (xs : List Entry) → latest_from c l xs ≡ gave m f ys rs → ((l ≡ gave m f ys rs) × Unshown c xs) ⊎ Came c xs m f ys rs
  unfolding latest_from
  came_from l [] e = inl (e, none)
  came_from l (x ∷ xs) e = go (came_from (latest_after l (shown c x)) xs e)
    where
      go : ((latest_after l (shown c x) ≡ gave m f ys rs) × Unshown c xs) ⊎ Came c xs m f ys rs → ((l ≡ gave m f ys rs) × Unshown c (x ∷ xs)) ⊎ Came c (x ∷ xs) m f ys rs
      go (inl k) = came_now l x xs (shown c x) refl k.0 k.1
      go (inr k) = inr (one_more x k)

  pub came : (xs : List Entry) → latest_in c xs ≡ gave m f ys rs → Came c xs m f ys rs
  came xs e = go (came_from nobody xs e)
    where
      go : ((nobody ≡ gave m f ys rs) × Unshown c xs) ⊎ Came c xs m f ys rs → Came c xs m f ys rs
      go (inl k) = let n = k.0 in let z : ◌≡◌ {A = ℕ} 0 1 = cc in absurd (omega arith)
      go (inr k) = k

-- ---- a release

pub acknowledged : (c : Config) (l : Latest) (x : Entry) (g : ℕ) (y : Shown) → shown c x ≡ y → (released_by l y g ≡ [] → ⊥) → Acknowledged c l x g
unfolding released_by shown
acknowledged c nobody x g y e n = absurd (n refl)
acknowledged c (gave m f ys rs) x g forgot e n = absurd (n refl)
acknowledged c (gave m f ys rs) x g other e n = absurd (n refl)
acknowledged c (gave m f ys rs) x g (told p h false zs ps) e n = absurd (n refl)
acknowledged c (gave m f ys rs) x g (told p h true zs ps) e n = go (is_of m p) (eqb f g) refl refl n
  where
    go : (b d : Bool) → is_of m p ≡ b → eqb f g ≡ d → (cond (b && d) rs [] ≡ [] → ⊥) → Acknowledged c (gave m f ys rs) x g
    go true true u v k =
        record {
          master = p;
          request = asked c x p h zs ps x.event refl e;
          chars = ys;
          latest =
              ap₂ (λ (a : Master) (b : ℕ). gave a b ys rs) (same-master m p u) (eqb-true f g v)
              ∙ ap (gave p g ys) (sym (ap (λ (z : Shown). released_by (gave m f ys rs) z g) e ∙ ap₂ (λ (a b : Bool). cond (a && b) rs []) u v));
        }
    go true false u v k = absurd (k refl)
    go false d u v k = absurd (k refl)

-- a repeat carries the data of the latest history reply, to the same master
pub repeated : (c : Config) (es : List Event) (e : Event) {m : Master} {f : ℕ} {ys : List ℕ} {rs : List (List ℕ)}
    → shown c (entry_of c (after c es) e) ≡ told m f false ys rs → Came c (trace c es) m f ys rs
repeated c es e k =
    came c (trace c es) ((moved_on c (after c es) (latest_in c (trace c es)) (run_matches c es) (run_formed c es) e).repeats k)
