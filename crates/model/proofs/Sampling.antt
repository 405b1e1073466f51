-- In every run the samples kept are the last that were taken, and the value of a mean is the mean of these, exactly. Assumes nothing.
use Prim.Native.Nat.{ℕ, zero, suc, ◌+◌, ◌-◌, ◌≤◌, ◌<◌, min}
use mathlib.Core.Path.{◌≡◌, refl, sym, ap, ◌∙◌}
use mathlib.Core.List.{List, [], ◌∷◌, ◌++◌, append-nil, append_assoc}
use mathlib.Core.Bool.{Bool, true, false, not}
use lib.ListN.{length, get_or, set, take, drop, replicate, length-append, length-drop, length-set, get_or-replicate}
use lib.Seq.{get_or-set_same, get_or-set_other, drop-append-le, drop-drop, drop-nil, get_or-take}
use lib.Dec.{eqb, leb, ltb}
use lib.Ieee.{binary32, to_bits}
use native.Mathlib.Omega.{arith}
use native.Mathlib.Decide.{dec_lt}
use borrow.Author.Tests.{ltb-true, ltb-false, lt-ltb, le-ltb, eqb-true, eqb-false, eq-eqb, ne_eqb, not-true}
use Rattle.chars.specs.Gather.{up_from, every}
use Rattle.model.specs.Limits.{most_means}
use Rattle.model.specs.Config.{Config, has, has_analog, has_calculation, none_in, file_valid, number_at, analog_at, window_at, first_of, names, place_of, is_mean, is_power, mean_valid, means_valid, valid_of}
use Rattle.model.specs.State.{Areas, State, Inner, fresh_areas, fresh_of}
use Rattle.model.specs.Means.{mean_of, samples_at, waits, struck_at, struck_to, equipped_now, value_settable, last_of, taken_at, sampled_of, sampled_for, values_after, areas_sampled}
use Rattle.model.specs.Calculations.{value_of, missing_of, set_value_of}
use Rattle.model.specs.Inputs.{Changed}
use Rattle.model.specs.Fits.{fits}
use Rattle.model.specs.Formed.{AllGiven, Formed}
use Rattle.model.specs.Event.{Local, set_word, set_value, pulses, store, contact, sample, Event, stretch, elapsed, local}
use Rattle.model.specs.Step.{with_values, quiet, local_made, value_made, sampled_made, sample_made, local_of, make_of}
use Rattle.model.specs.Run.{short, moves, next_of, after_from, after}
use Rattle.model.specs.Sampled.{taken_locally, taken_by, taken_from, Waiting, Standing, Demands}
use Rattle.model.specs.declared.SpecialCalculation.{SpecialCalculation}
use Rattle.model.specs.declared.Sampled.{Sampled}
use Rattle.model.specs.declared.Sampled.TheVariants.{Ready, NotReady}
use Rattle.model.proofs.Conditions.{by_cond, by_bool, by_eqb, and_left, and_right, false-true, every-up_from}
use Rattle.model.proofs.Exact.{first_passes, mean_exact}
use Rattle.model.proofs.SampleLaws.{at_set, length_last}
use Rattle.model.proofs.Parts.{Parts, Lasts, make_has}
use Rattle.model.proofs.Runs.{by_next}
use Rattle.model.proofs.TurnedAway.{decided_works}
use Rattle.model.proofs.Shape.{fresh_formed, step_formed}
use Rattle.model.proofs.Valid.{fresh-fits, step_fits}

-- ---- the last of a list

pub last-short : {A : Type 0} (n : ℕ) (xs : List A) → length xs ≤ n → last_of n xs ≡ xs
unfolding last_of
last-short n xs h = let z : length xs - n ≡ 0 = omega arith in rw z

-- the last of the last and one more are the last of all
pub last_more : {A : Type 0} (n : ℕ) (xs : List A) (x : A) → last_of n (last_of n xs ++ (x ∷ [])) ≡ last_of n (xs ++ (x ∷ []))
unfolding last_of
last_more n xs x =
    let k = length xs - n in
    let a : length (drop k xs ++ (x ∷ [])) ≡ length xs - k + 1 = length-append (drop k xs) (x ∷ []) ∙ ap (λ (m : ℕ). m + 1) (length-drop k xs) in
    let b : length (xs ++ (x ∷ [])) ≡ length xs + 1 = length-append xs (x ∷ []) in
    let e : drop k xs ++ (x ∷ []) ≡ drop k (xs ++ (x ∷ [])) = sym (drop-append-le k xs (x ∷ []) (omega arith)) in
    let j : k + (length xs - k + 1 - n) ≡ length xs + 1 - n = omega arith in
    rw (a, b, e) (drop-drop (length xs - k + 1 - n) k (xs ++ (x ∷ [])) ∙ rw j)

-- ---- places

first_most : (f : ℕ → Bool) (a k p : ℕ) → a ≤ p → p < a + k → f p ≡ true → first_of f a k ≤ p
unfolding first_of
first_most f a zero p l h e = absurd (omega arith)
first_most f a (suc k) p l h e =
    by_bool (f a) (λ t. rw t l)
    (λ t. rw t (by_eqb a p (λ s. false-true (sym (rw s at t) ∙ e)) (λ s. first_most f (suc a) k p (omega arith) (omega arith) e)))

-- what a place that is used owes, where the configuration is valid
pub record Placed (c : Config) (p : ℕ) : Type 0 where
  pub power : is_power (window_at c p) ≡ true
  pub equipped : has_calculation c.calculations (number_at c p) ≡ true
  pub only : place_of c (number_at c p) ≡ p

module _ (c : Config) (valid : valid_of c ≡ true) where
  places_valid : means_valid c ≡ true
  unfolding valid_of
  places_valid =
      and_right (every (file_valid c) (up_from 0 32)) _
      (and_right (none_in c.calculations 0x80 128) _ (and_right (none_in c.inputs 0x60 32) _ (and_right (none_in c.inputs 0x20 16) _
      (and_right (leb c.block 512) _ (and_right (leb c.unit 0x7FE) _ valid)))))

  pub placed : (p : ℕ) → p < most_means → 0 < window_at c p → Placed c p
  unfolding means_valid mean_valid
  placed p h u =
      let n : window_at c p ≡ 0 → ⊥ = λ e. omega arith in
      let m = rw (ne_eqb (window_at c p) 0 n) at (every-up_from (mean_valid c) 0 most_means places_valid p (omega arith) h) in
      let r = and_right (is_power (window_at c p)) _ m in
      record {
        power = and_left (is_power (window_at c p)) _ m;
        equipped = and_left (has_calculation c.calculations (number_at c p)) _ r;
        only = eqb-true _ p (and_right (has_analog c.inputs (analog_at c p)) _ (and_right (has_calculation c.calculations (number_at c p)) _ r));
      }

  -- its number is one of the 128, and a mean's
  pub number-low : (p : ℕ) → Placed c p → number_at c p < 128
  unfolding has_calculation
  number-low p k = ltb-true (number_at c p) 128 (and_left (ltb (number_at c p) 128) _ k.equipped)

  -- a number that a local event may set is no place's
  set_other : (n p : ℕ) → p < most_means → Placed c p → value_settable c n ≡ true → number_at c p ≡ n → ⊥
  unfolding value_settable is_mean
  set_other n p h k e s =
      let m = not-true (ltb (place_of c n) most_means) (and_right (has_calculation c.calculations n) _ e) in
      let l = ltb-false (place_of c n) most_means m in
      let z : place_of c n ≡ p = ap (place_of c) (sym s) ∙ k.only in
      omega arith

-- a mean's number is that of its place, which is used
pub record Found (c : Config) (n : ℕ) : Type 0 where
  pub used : 0 < window_at c (place_of c n)
  pub number : number_at c (place_of c n) ≡ n
  pub low : place_of c n < most_means

pub found : (c : Config) (n : ℕ) → is_mean c n ≡ true → Found c n
unfolding is_mean place_of names
found c n e =
    let l = ltb-true (place_of c n) most_means e in
    let h = first_passes (names c n) 0 most_means l in
    let u : window_at c (place_of c n) ≡ 0 → ⊥ = eqb-false _ 0 (not-true _ (and_left (not (eqb (window_at c (place_of c n)) 0)) _ h)) in
    record { used = omega arith; number = eqb-true _ n (and_right (not (eqb (window_at c (place_of c n)) 0)) _ h); low = l }

-- ---- the calculations that are equipped now

module _ (c : Config) (ss : List (List ℕ)) (table : List ℕ) (n : ℕ) where
  -- a number that no waiting place has
  struck-keeps : (k : ℕ) → ((j : ℕ) → j < k → waits c ss j ≡ true → number_at c j ≡ n → ⊥) → get_or (struck_to c ss k table) n 0 ≡ get_or table n 0
  unfolding struck_to struck_at
  struck-keeps zero h = refl
  struck-keeps (suc k) h =
      let r = struck-keeps k (λ j l. h j (omega arith)) in
      by_bool (waits c ss k)
      (λ w. rw w (get_or-set_other (struck_to c ss k table) (number_at c k) n 0 0 (λ e. h k (omega arith) w (sym e)) ∙ r))
      (λ w. rw w r)

  -- that of a waiting place
  struck_away : (k j : ℕ) → j < k → waits c ss j ≡ true → number_at c j ≡ n → get_or (struck_to c ss k table) n 0 ≡ 0
  unfolding struck_to struck_at
  struck_away zero j l w e = absurd (omega arith)
  struck_away (suc k) j l w e =
      let t = struck_to c ss k table in
      let gone : get_or t n 0 ≡ 0 → get_or (set t (number_at c k) 0) n 0 ≡ 0 = λ z. at_set (λ (x : ℕ). x ≡ 0) t (number_at c k) n 0 0 z (λ d. refl) in
      by_eqb j k
      (λ s. let v : waits c ss k ≡ true = rw (← s) w in let f : number_at c k ≡ n = rw (← s) e in rw (v, f) (own t))
      (λ s. let r = struck_away k j (omega arith) w e in by_bool (waits c ss k) (λ v. rw v (gone r)) (λ v. rw v r))
    where
      own : (t : List ℕ) → get_or (set t n 0) n 0 ≡ 0
      own t = elim (dec_lt n (length t)) [
        | yes l ↦ get_or-set_same t n 0 0 l
        | no l ↦ rw (lib.Seq.set_out t n 0 (omega arith)) (lib.ListN.get_or-eq_default t 0 {n = n} (omega arith))
      ]

-- ---- what an event leaves: all but two events leave values and samples alone

abbrev Calm : Event → Type 0
Calm (stretch s) = Unit {0}
Calm (elapsed ms) = Unit {0}
Calm (local (set_word n w)) = Unit {0}
Calm (local (set_value n v)) = ⊥
Calm (local (pulses n k)) = Unit {0}
Calm (local (store f e vs)) = Unit {0}
Calm (local (contact n s)) = Unit {0}
Calm (local (sample n)) = ⊥

pub record Left (a b : Areas) : Type 0 where
  pub values : b.values ≡ a.values
  pub samples : b.samples ≡ a.samples

abbrev leaving : Areas → Parts
leaving a =
    record {
      clock = λ k. Unit {0};
      hold = λ h. Unit {0};
      write = λ w. Unit {0};
      areas = Left a;
      history = λ h. Unit {0};
      request = λ q. Unit {0};
      event = Calm;
    }

leaving_lasts : (c : Config) (a : Areas) → Lasts c (leaving a)
leaving_lasts c a =
    record {
      heard = λ s q g e. tt;
      set-time = λ lag k q h. tt;
      clock-after = λ k ms h. tt;
      free = tt;
      control = λ h q g k. tt;
      held_after = λ h ms k. tt;
      no_write = tt;
      write = λ w q g k. tt;
      waits-after = λ w ms k. tt;
      leaves = λ x y s r h. record { values = s.values ∙ h.values; samples = s.samples ∙ h.samples };
      valued = λ x n v g e h. absurd g;
      sampled = λ x n g e h. absurd g;
      told = λ h q g e k. tt;
      forgotten = λ h k. tt;
      kept = λ h f r vs e k. tt;
      swapped = λ h f r vs e k. tt;
    }

-- 20h/00, an EXECUTE, Set Time and word events among them (Request 4.4)
pub calm_leaves : (c : Config) (i : Inner) (e : Event) → Calm e → Left i.areas (make_of c i e).inner.areas
calm_leaves c i e g =
    (make_has c (leaving i.areas) (leaving_lasts c i.areas) i
    (record { core = record { clock = tt; hold = tt; write = tt }; areas = record { values = refl; samples = refl }; history = tt }) e g).areas

-- ---- one place through a run

-- the last of the samples taken are kept, and once they are enough the number's value is their mean
record Stood (c : Config) (a : Areas) (p : ℕ) (taken : List ℕ) : Type 0 where
  samples : samples_at a.samples p ≡ last_of (window_at c p) taken
  held : window_at c p ≤ length taken → get_or a.values (number_at c p) 0 ≡ to_bits binary32 (mean_of (window_at c p) (last_of (window_at c p) taken))

module _ (c : Config) (p : ℕ) (taken : List ℕ) where
  left_stood : (a b : Areas) → Left a b → Stood c a p taken → Stood c b p (taken ++ [])
  left_stood a b l h = rw (append-nil taken) (record { samples = ap (λ (ss : List (List ℕ)). samples_at ss p) l.samples ∙ h.samples; held = λ k. ap (λ (vs : List ℕ). get_or vs (number_at c p) 0) l.values ∙ h.held k })

after-other : (vs : List ℕ) (n m : ℕ) (s : Sampled) → (m ≡ n → ⊥) → get_or (values_after vs n s) m 0 ≡ get_or vs m 0
unfolding values_after
after-other vs n m (Ready x) d = get_or-set_other vs n m _ 0 d
after-other vs n m (NotReady k) d = refl

-- enough samples make the mean
enough : (n : ℕ) (ws : List ℕ) → n ≤ length ws → sampled_of n ws ≡ Ready (mean_of n ws)
unfolding sampled_of
enough n ws h = rw (le-ltb (length ws) n h) refl

module _ (c : Config) (valid : valid_of c ≡ true) (p : ℕ) (low : p < most_means) (used : 0 < window_at c p) (taken : List ℕ) where
  set_stood : (a : Areas) (n v : ℕ) → value_settable c n ≡ true → Stood c a p taken → Stood c (with_values a (set a.values n v)) p (taken ++ [])
  set_stood a n v e h =
      rw (append-nil taken)
      (record { samples = h.samples; held = λ k. get_or-set_other a.values n (number_at c p) v 0 (set_other c valid n p low (placed c valid p low used) e) ∙ h.held k })

  -- a sample for the place
  own_stood : (a : Areas) (n : ℕ) → length a.values ≡ 128 → length a.samples ≡ most_means → number_at c p ≡ n → place_of c n ≡ p → Stood c a p taken
      → Stood c (areas_sampled c a n) p (taken ++ (get_or a.words (analog_at c p) 0 ∷ []))
  unfolding areas_sampled samples_at taken_at sampled_for values_after
  own_stood a n long many e q h =
      let w = get_or a.words (analog_at c p) 0 in
      let x = last_of (window_at c p) (get_or a.samples p [] ++ (w ∷ [])) in
      let is : x ≡ last_of (window_at c p) (taken ++ (w ∷ [])) = ap (λ (ws : List ℕ). last_of (window_at c p) (ws ++ (w ∷ []))) h.samples ∙ last_more (window_at c p) taken w in
      let l = number-low c valid p (placed c valid p low used) in
      record {
        samples = rw q (get_or-set_same a.samples p x [] (omega arith) ∙ is);
        held = λ k.
            let y : window_at c p ≤ length x = rw is (omega (arith, length_last (window_at c p) (taken ++ (w ∷ [])))) in
            rw (q, enough (window_at c p) x y) (rw e (get_or-set_same a.values n _ 0 (omega arith)) ∙ ap (λ (ws : List ℕ). to_bits binary32 (mean_of (window_at c p) ws)) is);
      }

  -- a sample for another
  other_stood : (a : Areas) (n : ℕ) → (place_of c n ≡ p → ⊥) → Stood c a p taken → Stood c (areas_sampled c a n) p (taken ++ [])
  unfolding areas_sampled samples_at
  other_stood a n d h =
      let k = placed c valid p low used in
      rw (append-nil taken)
      (record {
        samples = get_or-set_other a.samples (place_of c n) p _ [] (λ e. d (sym e)) ∙ h.samples;
        held = λ g. after-other a.values n (number_at c p) _ (λ e. d (ap (place_of c) (sym e) ∙ k.only)) ∙ h.held g;
      })

  sample_stood : (s : State) (n : SpecialCalculation) → Formed c s → Stood c s.inner.areas p taken → Stood c (sample_made c s.inner n.0).inner.areas p (taken ++ taken_by c s (local (sample n)) p)
  unfolding sample_made sampled_made quiet taken_by taken_locally
  sample_stood s n f h =
      by_bool (is_mean c n.0)
      (λ m. let k = found c n.0 m in
      by_eqb (place_of c n.0) p
      (λ q. rw (m, eq-eqb (place_of c n.0) p q) (own_stood s.inner.areas n.0 f.values f.samples (rw q at k.number) q h))
      (λ q. rw (m, ne_eqb (place_of c n.0) p q) (other_stood s.inner.areas n.0 q h)))
      (λ m. let far = ltb-false (place_of c n.0) most_means (unfold is_mean in m) in
      let q : place_of c n.0 ≡ p → ⊥ = λ e. omega arith in
      rw (m, ne_eqb (place_of c n.0) p q, append-nil taken) h)

  value_stood : (s : State) (n : SpecialCalculation) (v : ℕ) → Stood c s.inner.areas p taken
      → Stood c (value_made s.inner (set_value_of c s.inner.areas.values n.0 v)).inner.areas p (taken ++ [])
  unfolding value_made local_made quiet set_value_of
  value_stood s n v h =
      by_cond {A = Changed} (λ r. Stood c (value_made s.inner r).inner.areas p (taken ++ [])) (value_settable c n.0)
      (λ e. set_stood s.inner.areas n.0 v e h) (λ e. rw (append-nil taken) (record { samples = h.samples; held = h.held }))

  worked : (s : State) (e : Event) → short e ≡ false → fits c s ≡ true → next_of c s e ≡ moves s.port e (make_of c s.inner e)
  unfolding next_of
  worked s e = decided_works c s e (λ o. s) (moves s.port e)

  Stands : State → List ℕ → Type 0
  Stands s ws = Stood c s.inner.areas p ws

  calm_stood : (s : State) (e : Event) → short e ≡ false → Calm e → fits c s ≡ true → Stands s taken → Stands (next_of c s e) (taken ++ [])
  unfolding Stands moves
  calm_stood s e a g ok h = rw (worked s e a ok) (left_stood c p taken _ _ (calm_leaves c s.inner e g) h)

  local_stood : (s : State) (l : Local) → Formed c s → fits c s ≡ true → Stands s taken → Stands (next_of c s (local l)) (taken ++ taken_by c s (local l) p)
  unfolding Stands taken_by taken_locally short make_of local_of moves
  local_stood s (set_word n w) f ok h = calm_stood s (local (set_word n w)) refl tt ok h
  local_stood s (set_value n v) f ok h = rw (worked s (local (set_value n v)) refl ok) (value_stood s n v h)
  local_stood s (pulses n k) f ok h = calm_stood s (local (pulses n k)) refl tt ok h
  local_stood s (store g e vs) f ok h = calm_stood s (local (store g e vs)) refl tt ok h
  local_stood s (contact n x) f ok h = calm_stood s (local (contact n x)) refl tt ok h
  local_stood s (sample n) f ok h = rw (worked s (local (sample n)) refl ok) (sample_stood s n f h)

  next_stood : (s : State) (e : Event) → Formed c s → fits c s ≡ true → Stands s taken → Stands (next_of c s e) (taken ++ taken_by c s e p)
  unfolding Stands taken_by short moves
  next_stood s (stretch x) f ok h =
      by_next (λ t. Stood c t.inner.areas p (taken ++ [])) c s (stretch x) (rw (append-nil taken) h) (λ b. left_stood c p taken _ _ (calm_leaves c s.inner (stretch x) tt) h)
  next_stood s (elapsed ms) f ok h = calm_stood s (elapsed ms) refl tt ok h
  next_stood s (local l) f ok h = local_stood s l f ok h

module _ (c : Config) (valid : valid_of c ≡ true) (p : ℕ) (low : p < most_means) (used : 0 < window_at c p) where
  run_stood : (s : State) (es : List Event) (taken : List ℕ) → AllGiven es → Formed c s → fits c s ≡ true → Stood c s.inner.areas p taken
      → Stood c (after_from c s es).inner.areas p (taken ++ taken_from c s es p)
  unfolding after_from taken_from Stands
  run_stood s [] taken g f ok h = rw (append-nil taken) h
  run_stood s (e ∷ es) taken g f ok h =
      rw (← append_assoc taken (taken_by c s e p) (taken_from c (next_of c s e) es p))
      (run_stood (next_of c s e) es (taken ++ taken_by c s e p) g.1 (step_formed c s e f) (step_fits c s e g.0 ok) (next_stood c valid p low used taken s e f ok h))

  fresh_stood : Stood c (fresh_of c).inner.areas p []
  unfolding fresh_of fresh_areas samples_at last_of
  fresh_stood = record { samples = get_or-replicate {A = List ℕ} most_means p [] [] low ∙ sym (drop-nil (0 - window_at c p)); held = λ k. absurd (omega arith) }

  module _ (s : State) (taken : List ℕ) (h : Stood c s.inner.areas p taken) where
    abbrev now : List ℕ
    now = equipped_now c s.inner.areas.samples

    many : length (samples_at s.inner.areas.samples p) ≡ min (window_at c p) (length taken)
    many = ap length h.samples ∙ length_last (window_at c p) taken

    waiting : length taken < window_at c p → Waiting c s p
    unfolding equipped_now has_calculation has value_of missing_of waits
    waiting l =
        let few : length (samples_at s.inner.areas.samples p) < window_at c p = omega (arith, many) in
        let z = struck_away c s.inner.areas.samples (take 128 c.calculations) (number_at c p) most_means p low (lt-ltb _ _ few) refl in
        let n = number-low c valid p (placed c valid p low used) in
        record { unsent = rw (lt-ltb (number_at c p) 128 n, z) refl; missing = rw (lt-ltb (number_at c p) 128 n, z) refl }

    -- no other place has its number
    alone : window_at c p ≤ length taken → (j : ℕ) → j < most_means → waits c s.inner.areas.samples j ≡ true → number_at c j ≡ number_at c p → ⊥
    unfolding waits
    alone l j i w e =
        let k = ltb-true (length (samples_at s.inner.areas.samples j)) (window_at c j) w in
        let q : j ≡ p = sym (placed c valid j i (omega arith)).only ∙ ap (place_of c) e ∙ (placed c valid p low used).only in
        let v : length (samples_at s.inner.areas.samples p) < window_at c p = rw (← q) k in
        omega (arith, many)

    standing : window_at c p ≤ length taken → Standing c s p (last_of (window_at c p) taken)
    unfolding equipped_now has_calculation has value_of missing_of
    standing l =
        let k = placed c valid p low used in
        let n = number-low c valid p k in
        let z = struck-keeps c s.inner.areas.samples (take 128 c.calculations) (number_at c p) most_means (alone l) ∙ get_or-take 128 c.calculations (number_at c p) 0 n in
        let e = and_right (ltb (number_at c p) 128) _ k.equipped in
        record {
          sent = rw (lt-ltb (number_at c p) 128 n, z, e, h.held l) refl;
          found = rw (lt-ltb (number_at c p) 128 n, z, e) refl;
          held = h.held l;
          exact = mean_exact (window_at c p) (last_of (window_at c p) taken) k.power (omega (arith, length_last (window_at c p) taken));
        }

  -- THE LAW: in every run, of each mean
  pub demands : (es : List Event) → AllGiven es → Demands c (after c es) p (taken_from c (fresh_of c) es p)
  demands es g =
      let h = run_stood (fresh_of c) es [] g (fresh_formed c) (fresh-fits c valid) fresh_stood in
      record { samples = h.samples; waiting = waiting (after c es) _ h; standing = standing (after c es) _ h }
