-- A sample keeps its promise, and so does one for a number that is no mean. Assumes nothing.
use Rattle.std.proofs.Common.{◌≡◌, ℕ, ◌+◌, ◌*◌, ◌<◌, ◌≤◌, true, false, cond, Option, Some, None, List, [], ◌∷◌, ◌++◌, length, get_or, set, sym, refl, ap, ◌∙◌, subst, arith, le-ltb, lt-ltb}
use lib.Ieee.{binary32, to_bits}
use Rattle.chars.specs.Put.{put}
use Rattle.chars.specs.Word.{word, value}
use Rattle.chars.specs.Gather.{gather}
use Rattle.chars.proofs.PutLaws.{length-put}
use Rattle.model.specs.Limits.{most_means}
use Rattle.model.specs.Config.{Config, analog_at, window_at, place_of, is_mean, is_power}
use Rattle.model.specs.State.{State}
use Rattle.model.specs.Means.{last_of, taken_at, sampled_of, sampled_for, values_after, areas_sampled}
use Rattle.model.specs.Change.{takes}
use Rattle.model.specs.Fits.{fits}
use Rattle.model.specs.Event.{sample, Event, local}
use Rattle.model.specs.Port.{port_after}
use Rattle.model.specs.Step.{sampled_made, sample_made, local_of, make_of}
use Rattle.model.specs.Run.{short, moves, decided, next_of, change_of, after_from}
use Rattle.model.specs.declared.SpecialCalculation.{SpecialCalculation}
use Rattle.model.specs.declared.Sampled.{Sampled}
use Rattle.model.specs.declared.Sampled.TheVariants.{Ready, NotReady}
use Rattle.model.specs.declared.Outcome.TheVariants.{NotValid}
use Rattle.model.specs.declared.Answer.TheVariants.{Ended, Sampling}
use Rattle.model.proofs.Conditions.{false-true, by_bool}
use Rattle.model.proofs.TurnedAway.{works}
use Rattle.model.proofs.Sampling.{Found, found, Placed, placed, number-low}
use Rattle.layout.specs.Unit.{Unit, unit_long, results_region, taken_region, unit_in, config_in, numbers_in, set_values, set_taken, put_taken}
use Rattle.layout.specs.Records.{window_in, packed, room_of}
use Rattle.layout.specs.Kept.{Kept, kept_of, kept_by, kept_in, state_of, Owned, owned_of, standing}
use Rattle.layout.proofs.UnitLaws.{length-put_in, value_written, taken-written}
use Rattle.layout.proofs.NumbersLaws.{readable-written}
use Rattle.layout.proofs.MeansLaws.{samples-laid}
use Rattle.layout.proofs.RecordsLaws.{packed-serves}
use Rattle.history.specs.Change.{area_after, counts_after, taken_after, changes_samples}
use Rattle.history.specs.Runs.{kept_as, next_laid, after_laid}
use Rattle.history.proofs.CountLaws.{counts-long}
use Rattle.history.proofs.RunLaws.{few, inside, state_from}
use Rattle.serve.specs.Changes.{Shifted}
use Rattle.serve.proofs.FitLaws.{in_range_lem, stands-room, stands-readable}
use Rattle.unit.specs.Events.{Heeds, EventPromise}
use Rattle.unit.specs.Samples.{slid, slid_in, put_mean, TakePromise}
use Rattle.unit.proofs.HeedLaws.{heeds-sample, heeds_no_mean}
use Rattle.unit.proofs.EventLaws.{taken-long, event-read, event-means}

-- ---- by the place that was found

module _ (c : Config) (n : ℕ) {r : Option ℕ} (e : r ≡ cond (is_mean c n) (Some (place_of c n)) None) where
  pub mean_found : (p : ℕ) → r ≡ Some p → (is_mean c n ≡ true) × (p ≡ place_of c n)
  mean_found p h =
      by_bool (is_mean c n)
      (λ b. (b, let z : Some p ≡ Some (place_of c n) = sym h ∙ e ∙ rw b in cc))
      (λ b. let z : Some p ≡ None = sym h ∙ e ∙ rw b in cc)

  pub no_mean : r ≡ None → is_mean c n ≡ false
  no_mean h =
      by_bool (is_mean c n)
      (λ b. let z : Some (place_of c n) ≡ None = sym (sym h ∙ e ∙ rw b) in cc)
      (λ b. b)

pub at_place : {u area v area' : List ℕ} {p q n : ℕ} {r : Sampled} → p ≡ q → TakePromise u area p n v area' r → TakePromise u area q n v area' r
at_place {u} {area} {v} {area'} {n = n} {r = r} e t = subst (λ (p : ℕ). TakePromise u area p n v area' r) e t

-- ---- the unit's memory

mean_long : (u : List ℕ) (n : ℕ) (r : Sampled) → length (put_mean u n r) ≡ length u
unfolding put_mean
mean_long u n (Ready x) = length-put_in u results_region (4 * n) (value (to_bits binary32 x))
mean_long u n (NotReady m) = refl

taken-same : (u : List ℕ) (p m : ℕ) → length (put_taken u p m) ≡ length u
taken-same u p m = length-put_in u taken_region (2 * p) (word m)

-- what it means with a count and a mean written
mean_means : (u : List ℕ) → length u ≡ unit_long → (p m n : ℕ) → p < 16 → n < 128 → (r : Sampled)
    → unit_in (put_mean (put_taken u p m) n r) ≡ set_values (set_taken (unit_in u) (set (unit_in u).taken p m)) (values_after (unit_in u).values n r)
unfolding put_mean values_after
mean_means u long p m n l h (Ready x) =
    value_written (put_taken u p m) (taken-same u p m ∙ long) n (to_bits binary32 x) h
    ∙ ap (λ (y : Unit). set_values y (set y.values n (to_bits binary32 x))) (taken-written u long p m l)
mean_means u long p m n l h (NotReady j) = taken-written u long p m l

-- ---- a unit that works

module _ (x : Owned) (n : SpecialCalculation) (long : length x.unit ≡ unit_long) (t : standing x ≡ true) (b : fits (config_in x.unit) (state_of (config_in x.unit) (kept_in x)) ≡ true) where
  abbrev c : Config
  c = config_in x.unit

  abbrev k : Kept
  k = kept_in x

  abbrev s : State
  s = state_of c k

  abbrev e : Event
  e = local (sample n)

  pub event_no_mean : is_mean c n.0 ≡ false → EventPromise e x x (Ended NotValid)
  event_no_mean m = event-means x e x.unit (unit_in x.unit) t refl refl refl refl (heeds_no_mean c k n b m) (readable-written _ (stands-readable x t))

  module _ (m : is_mean c n.0 ≡ true) where
    abbrev p : ℕ
    p = place_of c n.0

    here : Found c n.0
    here = found c n.0 m

    place : Placed c p
    place = placed c (in_range_lem c s b).valid p here.low here.used

    number : n.0 < 128
    number = let h = number-low c (in_range_lem c s b).valid p place in omega (arith, here.number)

    room : (packed c).window most_means ≤ length x.area
    unfolding packed room_of
    room = stands-room x t

    -- what the place owes
    pub place_owes : (p < 16) × (is_power (window_at c p) ≡ true) × (get_or (unit_in x.unit).taken p 0 ≤ window_at c p) × ((packed c).window p + 2 * window_at c p ≤ length x.area)
    place_owes = (
      here.low,
      place.power,
      few (packed c) c (λ v. packed-serves c) k room (counts-long x.unit long) (taken-long x.unit long) b p here.low,
      inside (packed c) c (λ v. packed-serves c) k room (counts-long x.unit long) (taken-long x.unit long) b p here.low,
    )

    abbrev ws : List ℕ
    ws = taken_at c s.inner.areas p

    taken_at_lem : slid_in x.unit x.area p ≡ ws
    unfolding taken_at slid window_in
    taken_at_lem =
        ap (λ (vs : List ℕ). last_of (window_at c p) (vs ++ (get_or (unit_in x.unit).words (analog_at c p) 0 ∷ []))) (sym (samples-laid (packed c) x.area (unit_in x.unit).taken p here.low))

    next_is : next_of c s e ≡ moves k.port e (sampled_made c s.inner n.0)
    unfolding short make_of local_of sample_made
    next_is = (works c s e refl b).1 ∙ rw m

    change_is : change_of c s e ≡ takes p ws
    unfolding change_of decided short make_of local_of sample_made sampled_made
    change_is = rw (b, m)

    module _ {r : Sampled} {u area : List ℕ} (q : TakePromise x.unit x.area p n.0 u area r) where
      sampled_is : r ≡ sampled_for c s.inner.areas n.0
      unfolding sampled_for
      sampled_is = q.ended ∙ ap (sampled_of (window_at c p)) taken_at_lem

      moved_is : area ≡ put x.area ((packed c).window p) (gather word ws)
      moved_is = q.moved ∙ ap (λ (vs : List ℕ). put x.area ((packed c).window p) (gather word vs)) taken_at_lem

      abbrev after : Unit
      after = set_values (set_taken (unit_in x.unit) (set (unit_in x.unit).taken p (length ws))) (values_after (unit_in x.unit).values n.0 r)

      means : unit_in u ≡ after
      means =
          ap unit_in q.left ∙ mean_means x.unit long p (length (slid_in x.unit x.area p)) n.0 here.low number r
          ∙ ap (λ (vs : List ℕ). set_values (set_taken (unit_in x.unit) (set (unit_in x.unit).taken p (length vs))) (values_after (unit_in x.unit).values n.0 r)) taken_at_lem

      abbrev left : Kept
      left = kept_by k.core k.memory k.port after x.block area

      laid : left ≡ next_laid (packed c) c k e
      unfolding next_laid kept_as moves port_after sampled_made areas_sampled area_after counts_after taken_after
      laid =
          (λ i. kept_of k.core k.memory k.port k.words (values_after k.results n.0 (sampled_is i)) k.fixed k.block (moved_is i) k.counts k.dropped k.changed (set k.taken p (length ws)) k.plans)
          ∙ sym (λ i. kept_as (next_is i) (area_after (packed c) (change_is i) k.counts k.area) (counts_after (change_is i) k.counts) (taken_after (change_is i) k.taken))

      next-left : state_of c left ≡ moves k.port e (sampled_made c s.inner n.0)
      unfolding after_laid after_from
      next-left =
          ap (state_of c) laid
          ∙ state_from (packed c) c (λ v. packed-serves c) k (e ∷ []) room (counts-long x.unit long) (taken-long x.unit long)
          ∙ next_is

      shifted : Shifted c (takes p ws) k.area k.counts area k.counts
      unfolding area_after counts_after changes_samples
      shifted = record { moved = moved_is; counted = refl; behind = λ f. false-true (sym f) }

      heeds : Heeds c e k left (Sampling r)
      heeds = heeds-sample c k n b m sampled_is next-left shifted refl

      pub event-sample : EventPromise e x (owned_of u x.block area) (Sampling r)
      event-sample =
          event-read x e (owned_of u x.block area) t
          (subst (λ (y : Unit). Heeds c e k (kept_by k.core k.memory k.port y x.block area) (Sampling r)) (sym means) heeds)
          (rw (ap (λ (y : Unit). y.numbers) means) (readable-written (numbers_in x.unit) (stands-readable x t)))
          (record {
            layout = ap (λ (y : Unit). y.layout) means;
            config = ap (λ (y : Unit). y.config) means;
            long = ap length q.left ∙ mean_long _ n.0 r ∙ taken-same x.unit p _;
          })
          (ap length q.moved ∙ length-put x.area _ _)
