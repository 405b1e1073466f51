-- Demand 3, drops: the ledger of a file over every run from a fresh unit, and each event's part in it. Assumes nothing.
use Prim.Native.Nat.{ℕ, zero, suc, ◌+◌, ◌<◌, min}
use mathlib.Core.Path.{◌≡◌, refl, sym, ap, ◌∙◌}
use mathlib.Core.List.{List, [], ◌∷◌, ◌++◌, append-nil, append_assoc, map}
use mathlib.Core.Bool.{Bool, true, false, cond, ◌&&◌}
use lib.ListN.{length, get_or, drop, length-append, replicate}
use lib.Dec.{eqb}
use native.Mathlib.Omega.{arith}
use borrow.Author.Tests.{eqb-true}
use Rattle.model.specs.Limits.{most_dropped}
use Rattle.model.specs.Config.{Config, keeps_oldest}
use Rattle.model.specs.State.{State, fresh_history, fresh_of}
use Rattle.model.specs.Fits.{fits}
use Rattle.model.specs.History.{spared_in, stored_as}
use Rattle.model.specs.Event.{Local, set_word, set_value, pulses, store, contact, sample, Event, stretch, elapsed, local}
use Rattle.model.specs.Step.{store_made, local_of, make_of}
use Rattle.model.specs.Run.{Entry, short, turned_away, shows, result_of, next_of, entry_of, after_from, trace_from, after, trace}
use Rattle.model.specs.Formed.{Formed}
use Rattle.model.specs.Line.{
  shown,
  Latest,
  nobody,
  latest_after,
  released_by,
  released_from,
  stored_by,
  stored_in,
  latest_in,
  released_in,
  Lot,
  stands,
  struck,
  lots_stored,
  lots_standing,
  lots_dropped,
  struck_at,
  was_swapped,
  drops_locally,
  drops_by,
  spared_by,
  ledger_after,
  ledger_from,
  ledger_in,
}
use Rattle.model.specs.Demand3.{held_by, dropped_by, without, Drop, Accounted, Ledger}
use Rattle.model.specs.declared.Outcome.{Outcome}
use Rattle.model.specs.declared.Stored.{Stored}
use Rattle.model.specs.declared.Stored.TheVariants.{Kept, Swapped, Full, NotEquipped, WrongValues}
use Rattle.model.specs.declared.Answer.TheVariants.{Ended, Storing}
use Rattle.model.proofs.Conditions.{by_bool, false-true}
use Rattle.model.proofs.FileLaws.{held_none, SwappedIn, stored-swapped}
use Rattle.model.proofs.Shape.{fresh_formed, step_formed, run_formed}
use Rattle.model.proofs.TurnedAway.{short_away, unfit_away, works}
use Rattle.model.proofs.Releases.{Matches, counts_on}
use Rattle.model.proofs.Stores.{spared-long, spared_front}
use Rattle.model.proofs.Records.{moved_on, fresh_matches, run_matches, acknowledged}

-- ---- ledgers

stored_strike : (xs : List Lot) (n : ℕ) → lots_stored (struck_at xs n) ≡ lots_stored xs
unfolding lots_stored struck_at
stored_strike [] n = refl
stored_strike (stands r ∷ xs) zero = refl
stored_strike (stands r ∷ xs) (suc n) = ap (λ (k : List (List ℕ)). r ∷ k) (stored_strike xs n)
stored_strike (struck r ∷ xs) n = ap (λ (k : List (List ℕ)). r ∷ k) (stored_strike xs n)

standing_strike : (xs : List Lot) (n : ℕ) → lots_standing (struck_at xs n) ≡ without true n (lots_standing xs)
unfolding lots_standing struck_at without
standing_strike [] zero = refl
standing_strike [] (suc n) = refl
standing_strike (stands r ∷ xs) zero = refl
standing_strike (stands r ∷ xs) (suc n) = ap (λ (k : List (List ℕ)). r ∷ k) (standing_strike xs n)
standing_strike (struck r ∷ xs) n = standing_strike xs n

dropped_strike : (xs : List Lot) (n : ℕ) → n < length (lots_standing xs) → length (lots_dropped (struck_at xs n)) ≡ length (lots_dropped xs) + 1
unfolding lots_standing lots_dropped struck_at
dropped_strike [] n h = absurd (omega arith)
dropped_strike (stands r ∷ xs) zero h = omega arith
dropped_strike (stands r ∷ xs) (suc n) h = dropped_strike xs n (omega arith)
dropped_strike (struck r ∷ xs) n h = omega (arith, dropped_strike xs n h)

stored_more : (xs : List Lot) (new : List (List ℕ)) → lots_stored (xs ++ map stands new) ≡ lots_stored xs ++ new
unfolding lots_stored
stored_more [] [] = refl
stored_more [] (r ∷ new) = ap (λ (k : List (List ℕ)). r ∷ k) (stored_more [] new)
stored_more (stands r ∷ xs) new = ap (λ (k : List (List ℕ)). r ∷ k) (stored_more xs new)
stored_more (struck r ∷ xs) new = ap (λ (k : List (List ℕ)). r ∷ k) (stored_more xs new)

standing-more : (xs : List Lot) (new : List (List ℕ)) → lots_standing (xs ++ map stands new) ≡ lots_standing xs ++ new
unfolding lots_standing
standing-more [] [] = refl
standing-more [] (r ∷ new) = ap (λ (k : List (List ℕ)). r ∷ k) (standing-more [] new)
standing-more (stands r ∷ xs) new = ap (λ (k : List (List ℕ)). r ∷ k) (standing-more xs new)
standing-more (struck r ∷ xs) new = standing-more xs new

dropped-more : (xs : List Lot) (new : List (List ℕ)) → lots_dropped (xs ++ map stands new) ≡ lots_dropped xs
unfolding lots_dropped
dropped-more [] [] = refl
dropped-more [] (r ∷ new) = dropped-more [] new
dropped-more (stands r ∷ xs) new = dropped-more xs new
dropped-more (struck r ∷ xs) new = ap (λ (k : List (List ℕ)). r ∷ k) (dropped-more xs new)

-- where nothing was struck out, all stand
all-stand : (xs : List Lot) → lots_dropped xs ≡ [] → lots_standing xs ≡ lots_stored xs
unfolding lots_stored lots_standing lots_dropped
all-stand [] e = refl
all-stand (stands r ∷ xs) e = ap (λ (k : List (List ℕ)). r ∷ k) (all-stand xs e)
all-stand (struck r ∷ xs) e = let z : ◌≡◌ {A = ℕ} 0 1 = cc in absurd (omega arith)

module _ (xs : List Lot) (n : ℕ) (new : List (List ℕ)) where
  after-stored : (d : Bool) → lots_stored (ledger_after xs d n new) ≡ lots_stored xs ++ new
  unfolding ledger_after
  after-stored true = stored_more (struck_at xs n) new ∙ ap (λ (k : List (List ℕ)). k ++ new) (stored_strike xs n)
  after-stored false = stored_more xs new

  after-standing : (d : Bool) → lots_standing (ledger_after xs d n new) ≡ without d n (lots_standing xs) ++ new
  unfolding ledger_after without
  after-standing true = standing-more (struck_at xs n) new ∙ ap (λ (k : List (List ℕ)). k ++ new) (standing_strike xs n)
  after-standing false = standing-more xs new

  after-dropped : (d : Bool) → (d ≡ true → n < length (lots_standing xs)) → length (lots_dropped (ledger_after xs d n new)) ≡ cond d (length (lots_dropped xs) + 1) (length (lots_dropped xs))
  unfolding ledger_after
  after-dropped true h = rw (dropped-more (struck_at xs n) new) (dropped_strike xs n (h refl))
  after-dropped false h = rw (dropped-more xs new)

-- what is behind n others goes from behind them
without-behind : (d : Bool) (n k : ℕ) (xs ys : List (List ℕ)) → k ≡ length xs + n → without d k (xs ++ ys) ≡ xs ++ without d n ys
unfolding without
without-behind false n k xs ys e = refl
without-behind true n k [] ys e = let z : k ≡ n = omega arith in rw z
without-behind true n zero (x ∷ xs) ys e = absurd (omega arith)
without-behind true n (suc k) (x ∷ xs) ys e = ap (λ (z : List (List ℕ)). x ∷ z) (without-behind true n k xs ys (omega arith))

-- ---- a drop: a full file, that does not keep the oldest and of which a record may go

module _ (c : Config) (s : State) where
  abbrev Swapped-in : ℕ → ℕ → Type 0
  Swapped-in g n = SwappedIn c (length (held_by s g)) (spared_in s.inner.history.memory g) g n

  store_drops : (f g : ℕ) (vs : List ℕ) (o : Stored) → stored_as c s.inner.history f vs ≡ o → (was_swapped (Storing o) && eqb f g) ≡ true → Swapped-in g (length vs)
  unfolding was_swapped
  store_drops f g vs Kept e d = false-true d
  store_drops f g vs Swapped e d = rw (eqb-true f g d) at (stored-swapped c s.inner.history f vs e)
  store_drops f g vs Full e d = false-true d
  store_drops f g vs NotEquipped e d = false-true d
  store_drops f g vs WrongValues e d = false-true d

  abbrev Swaps : ℕ → Type 0
  Swaps g = (vs : List ℕ) × Swapped-in g (length vs)

  local_drops : (l : Local) (g : ℕ) → drops_locally l (local_of c s.inner l).answer g ≡ true → Swaps g
  unfolding drops_locally local_of store_made
  local_drops (set_word n w) g d = false-true d
  local_drops (set_value n v) g d = false-true d
  local_drops (pulses n p) g d = false-true d
  local_drops (contact n x) g d = false-true d
  local_drops (store f e vs) g d = (vs, store_drops f.0 g vs _ refl d)
  local_drops (sample n) g d = false-true d

  away_drops : (e : Event) (o : Outcome) (g : ℕ) → drops_by e (Ended o) g ≡ false
  unfolding drops_by drops_locally was_swapped
  away_drops (stretch t) o g = refl
  away_drops (elapsed ms) o g = refl
  away_drops (local (set_word n w)) o g = refl
  away_drops (local (set_value n v)) o g = refl
  away_drops (local (pulses n p)) o g = refl
  away_drops (local (contact n x)) o g = refl
  away_drops (local (store f e vs)) o g = refl
  away_drops (local (sample n)) o g = refl

  made_drops : (e : Event) (g : ℕ) → drops_by e (make_of c s.inner e).answer g ≡ true → Swaps g
  unfolding drops_by make_of
  made_drops (stretch t) g d = false-true d
  made_drops (elapsed ms) g d = false-true d
  made_drops (local l) g d = local_drops l g d

  event_drops : (e : Event) (g : ℕ) → drops_by e (result_of c s e).answer g ≡ true → Swaps g
  unfolding turned_away shows
  event_drops e g d =
      by_bool (short e) (λ a. false-true (sym (away_drops e _ g) ∙ rw (short_away c s e a).0 at d))
      (λ a. by_bool (fits c s) (λ b. made_drops e g (rw (works c s e a b).0 at d))
      (λ b. false-true (sym (away_drops e _ g) ∙ rw (unfit_away c s e a b).0 at d)))

  module _ (l : Latest) (t : Matches s.inner.history l) where
    spared_here : (g : ℕ) → length (spared_by l g) ≡ spared_in s.inner.history.memory g
    spared_here g = rw t.latest (spared-long s.inner.history.memory s.inner.history.files g t.holds)

    -- the records that stand behind those that are spared
    behind : (g : ℕ) (vs : List ℕ) → Swapped-in g (length vs) → (rest : List (List ℕ)) → held_by s g ≡ spared_by l g ++ rest → Drop c l (held_by s g) g
    behind g vs k [] e = absurd (omega (arith, k.full, k.free, spared_here g, ap length (e ∙ append-nil (spared_by l g))))
    behind g vs k (r ∷ rest) e = record { full = k.full; unmarked = k.unmarked; goes = r; newer = rest; parts = e }

    event-drop : (e : Event) (g : ℕ) → drops_by e (result_of c s e).answer g ≡ true → Drop c l (held_by s g) g
    event-drop e g d =
        let k = event_drops e g d in
        let w = s.inner.history.memory in
        behind g k.0 k.1 (drop (spared_in w g) (held_by s g)) (rw t.latest (spared_front w s.inner.history.files g))

    -- and there is one
    place_there : (e : Event) (g : ℕ) → drops_by e (result_of c s e).answer g ≡ true → length (spared_by l g) < length (held_by s g)
    place_there e g d = let k = event_drops e g d in omega (arith, k.1.full, k.1.free, spared_here g)

-- ---- each event

pub accounted : (c : Config) (es : List Event) (e : Event) (g : ℕ) → Accounted c es e g
accounted c es e g =
    record {
      balance = (moved_on c (after c es) (latest_in c (trace c es)) (run_matches c es) (run_formed c es) e).moved g;
      release = acknowledged c (latest_in c (trace c es)) (entry_of c (after c es) e) g _ refl;
      dropping = event-drop c (after c es) (latest_in c (trace c es)) (run_matches c es) e g;
    }

-- ---- a run

-- the ledger so far: its front was released, what is held stands behind that, and the number tells the rest
record Tallied (s : State) (g : ℕ) (xs : List Lot) (n : ℕ) (rel : List (List ℕ)) : Type 0 where
  many : n ≡ length rel
  standing : lots_standing xs ≡ rel ++ held_by s g
  counted : dropped_by s g ≡ min (length (lots_dropped xs)) most_dropped

module _ (c : Config) (g : ℕ) where
  -- one event
  module _ (s : State) (l : Latest) (t : Matches s.inner.history l) (f : Formed c s) (e : Event) (xs : List Lot) (n : ℕ) (rel : List (List ℕ)) (y : Tallied s g xs n rel) where
    abbrev drops : Bool
    drops = drops_by e (result_of c s e).answer g

    abbrev new : List (List ℕ)
    new = stored_by e s.inner.core.clock (result_of c s e).answer g

    abbrev out : List (List ℕ)
    out = released_by l (shown c (entry_of c s e)) g

    abbrev at : ℕ
    at = n + length (spared_by l g)

    next-standing : lots_standing (ledger_after xs drops at new) ≡ (rel ++ out) ++ held_by (next_of c s e) g
    next-standing =
        after-standing xs at new drops
        ∙ ap (λ (z : List (List ℕ)). without drops at z ++ new) y.standing
        ∙ ap (λ (z : List (List ℕ)). z ++ new) (without-behind drops (length (spared_by l g)) at rel (held_by s g) (omega (arith, y.many)))
        ∙ append_assoc rel (without drops (length (spared_by l g)) (held_by s g)) new
        ∙ ap (λ (z : List (List ℕ)). rel ++ z) ((moved_on c s l t f e).moved g)
        ∙ sym (append_assoc rel out (held_by (next_of c s e) g))

    at_there : drops ≡ true → at < length (lots_standing xs)
    at_there d = omega (arith, place_there c s l t e g d, y.many, ap length y.standing, length-append rel (held_by s g))

    counts_up : (d : Bool) (m k z : ℕ) → m ≡ min k most_dropped → z ≡ cond d (k + 1) k → counts_on d m ≡ min z most_dropped
    counts_up true m k z h w = omega arith
    counts_up false m k z h w = omega arith

    next_tallied : Tallied (next_of c s e) g (ledger_after xs drops at new) (n + length out) (rel ++ out)
    next_tallied =
        record {
          many = omega (arith, y.many, length-append rel out);
          standing = next-standing;
          counted = (moved_on c s l t f e).counted g ∙ counts_up drops (dropped_by s g) (length (lots_dropped xs)) _ y.counted (after-dropped xs at new drops at_there);
        }

  tallied_from : (s : State) (l : Latest) (es : List Event) → Matches s.inner.history l → Formed c s → (xs : List Lot) (n : ℕ) (rel : List (List ℕ)) → Tallied s g xs n rel
      → (m : ℕ) × Tallied (after_from c s es) g (ledger_from c l n xs (trace_from c s es) g) m (rel ++ released_from c l (trace_from c s es) g)
  unfolding trace_from after_from ledger_from released_from entry_of
  tallied_from s l [] t f xs n rel y = (n, rw (append-nil rel) y)
  tallied_from s l (e ∷ es) t f xs n rel y =
      let m = moved_on c s l t f e in
      let k = tallied_from (next_of c s e) (latest_after l (shown c (entry_of c s e))) es m.matches (step_formed c s e f) _ _ _ (next_tallied s l t f e xs n rel y) in
      (k.0, rw (append_assoc rel (released_by l (shown c (entry_of c s e)) g) (released_from c (latest_after l (shown c (entry_of c s e))) (trace_from c (next_of c s e) es) g)) at k.1)

  none-counted : (n i : ℕ) → get_or {A = ℕ} (replicate n 0) i 0 ≡ 0
  none-counted zero i = refl
  none-counted (suc n) zero = refl
  none-counted (suc n) (suc i) = none-counted n i

  fresh_tallied : Tallied (fresh_of c) g [] 0 []
  unfolding fresh_of fresh_history lots_standing lots_dropped
  fresh_tallied = record { many = refl; standing = sym (held_none 32 g); counted = none-counted 32 g }

  -- what is stored is in the ledger
  stored_from : (es : List Entry) (l : Latest) (n : ℕ) (xs : List Lot) → lots_stored (ledger_from c l n xs es g) ≡ lots_stored xs ++ stored_in es g
  unfolding ledger_from stored_in
  stored_from [] l n xs = sym (append-nil (lots_stored xs))
  stored_from (x ∷ es) l n xs =
      let z = stored_by x.event x.clock x.result.answer g in
      stored_from es _ _ _ ∙ ap (λ (k : List (List ℕ)). k ++ stored_in es g) (after-stored xs _ z (drops_by x.event x.result.answer g))
      ∙ append_assoc (lots_stored xs) z (stored_in es g)

  -- THE THEOREM
  pub ledger : (es : List Event) → Ledger c es g
  unfolding lots_stored
  ledger es =
      let k = tallied_from (fresh_of c) nobody es (fresh_matches c) (fresh_formed c) [] 0 [] fresh_tallied in
      record { stored = stored_from (trace c es) nobody 0 []; left = k.1.standing; counted = k.1.counted }

  -- ---- a file that keeps the oldest drops nothing

  module _ (marked : keeps_oldest c g ≡ true) where
    never_drops : (s : State) (e : Event) → drops_by e (result_of c s e).answer g ≡ false
    never_drops s e = by_bool (drops_by e (result_of c s e).answer g) (λ d. false-true (sym (event_drops c s e g d).1.unmarked ∙ marked)) (λ d. d)

    undropped : (s : State) (l : Latest) (n : ℕ) (xs : List Lot) (es : List Event) → lots_dropped xs ≡ [] → lots_dropped (ledger_from c l n xs (trace_from c s es) g) ≡ []
    unfolding trace_from ledger_from entry_of ledger_after
    undropped s l n xs [] h = h
    undropped s l n xs (e ∷ es) h = undropped (next_of c s e) _ _ _ es (rw (never_drops s e) (dropped-more xs (stored_by e s.inner.core.clock (result_of c s e).answer g) ∙ h))

    -- what a run stored in it is what it released of it, followed by what is held
    pub kept-all : (es : List Event) → stored_in (trace c es) g ≡ released_in c (trace c es) g ++ held_by (after c es) g
    unfolding lots_dropped
    kept-all es =
        let k = ledger es in
        sym k.stored ∙ sym (all-stand (ledger_in c (trace c es) g) (undropped (fresh_of c) nobody 0 [] es refl)) ∙ k.left
