-- Time and the local events: one that is turned away, and one that does its work, keeps its promise. Assumes nothing.
use Rattle.std.proofs.Common.{◌≡◌, ℕ, true, false, List, length, set, sym, refl, ap, ◌∙◌}
use Rattle.model.specs.Config.{Config, place_of, is_mean}
use Rattle.model.specs.State.{Inner}
use Rattle.model.specs.Inputs as points
use Rattle.model.specs.Contacts.{Contacted}
use Rattle.model.specs.History.{record_chars, spared_in, stored_as}
use Rattle.model.specs.Means.{taken_at, sampled_for}
use Rattle.model.specs.Event.{store, sample, Event, elapsed, local}
use Rattle.model.specs.Change.{takes, applied, dropped_after, added_by, changed_by}
use Rattle.model.specs.Step.{
  Made,
  quiet,
  core_after,
  elapsed_made,
  local_made,
  word_made,
  value_made,
  contact_made,
  noted_in,
  store_made,
  sampled_made,
  sample_made,
  local_of,
  make_of,
}
use Rattle.model.specs.Port.{silent_after, port_after}
use Rattle.model.specs.Fits.{fits}
use Rattle.model.specs.Run.{short, Result, turned_away, shows, moves, decided, change_of}
use Rattle.model.specs.declared.Outcome.{Outcome}
use Rattle.model.specs.declared.Outcome.TheVariants.{Done, NotValid, NotConfigured}
use Rattle.model.specs.declared.Answer.{Answer}
use Rattle.model.specs.declared.Answer.TheVariants.{Ended, Storing, Sampling}
use Rattle.model.specs.declared.Sampled.{Sampled}
use Rattle.model.specs.declared.SpecialCalculation.{SpecialCalculation}
use Rattle.model.specs.declared.Stored.{Stored}
use Rattle.model.specs.declared.File.{File}
use Rattle.model.specs.declared.Record.{Record}
use Rattle.model.specs.declared.Core.{Core}
use Rattle.model.specs.declared.Port.{Port}
use Rattle.model.proofs.TurnedAway.{unfit_away, works}
use Rattle.history.specs.Keep.{record_kept}
use Rattle.layout.specs.Records.{files_in, packed, samples_laid}
use Rattle.history.proofs.FitsLaws.{kept_as_lem}
use Rattle.layout.specs.Kept.{Kept, kept_of, state_of}
use Rattle.history.specs.Change.{taken_after, changes_samples}
use Rattle.layout.proofs.MeansLaws.{samples-left}
use Rattle.layout.proofs.RecordsLaws.{packed-serves}
use Rattle.model.specs.declared.Stored.TheVariants.{Kept as KeptRecord, Swapped, Full, NotEquipped, WrongValues}
use Rattle.serve.specs.Changes.{Shifted}
use Rattle.unit.specs.Events.{Heeds}
use Rattle.serve.proofs.FitLaws.{in_range_lem}
use Rattle.serve.proofs.KeptLaws.{still}

-- storing changes no samples
added_taken : (o : Stored) (f at : ℕ) (r taken : List ℕ) → taken_after (added_by o f at r) taken ≡ taken
unfolding added_by taken_after
added_taken KeptRecord f at r taken = refl
added_taken Swapped f at r taken = refl
added_taken Full f at r taken = refl
added_taken NotEquipped f at r taken = refl
added_taken WrongValues f at r taken = refl

pub added_calm : (o : Stored) (f at : ℕ) (r : List ℕ) → changes_samples (added_by o f at r) ≡ false
unfolding added_by changes_samples
added_calm KeptRecord f at r = refl
added_calm Swapped f at r = refl
added_calm Full f at r = refl
added_calm NotEquipped f at r = refl
added_calm WrongValues f at r = refl

module _ (c : Config) (k : Kept) where
  module _ (e : Event) (s : short e ≡ false) where
    pub heeds_away : fits c (state_of c k) ≡ false → Heeds c e k k (Ended NotConfigured)
    unfolding turned_away change_of decided taken_after
    heeds_away b =
        let w = unfit_away c (state_of c k) e s b in
        record {
          answered = sym (ap (λ (r : Result). r.answer) w.0);
          next = sym w.1;
          changed = rw (s, b) (still c k.area k.counts);
          taken = rw (s, b) refl;
        }

    heeds_made : {a : Answer} {l : Kept} (m : Made) → fits c (state_of c k) ≡ true → make_of c (state_of c k).inner e ≡ m
        → a ≡ m.answer → state_of c l ≡ moves k.port e m
        → Shifted c m.change k.area k.counts l.area l.counts → l.taken ≡ taken_after m.change k.taken → Heeds c e k l a
    unfolding shows change_of decided
    heeds_made m b z a n ch t =
        let w = works c (state_of c k) e s b in
        record {
          answered = a ∙ sym (ap (λ (r : Result). r.answer) w.0 ∙ ap (λ (x : Made). x.answer) z);
          next = n ∙ sym (w.1 ∙ ap (moves k.port e) z);
          changed = rw (s, b, z) ch;
          taken = rw (s, b, z) t;
        }

    -- an event on one point: the port stays, and so do the files
    module _ (b : fits c (state_of c k) ≡ true) (p : (a : Answer) → port_after k.port e a ≡ k.port)
        (m : points.Changed) {r : Outcome} (w : r ≡ m.says.outcome) where
      pub heeds-word : make_of c (state_of c k).inner e ≡ word_made (state_of c k).inner m
          → Heeds c e k (kept_of k.core k.memory k.port m.area k.results k.fixed k.block k.area k.counts k.dropped k.changed k.taken k.plans) (Ended r)
      unfolding moves word_made local_made quiet taken_after
      heeds-word z =
          heeds_made (word_made (state_of c k).inner m) b z (ap Ended w) (rw p) (still c k.area k.counts) refl

      pub heeds-value : make_of c (state_of c k).inner e ≡ value_made (state_of c k).inner m
          → Heeds c e k (kept_of k.core k.memory k.port k.words m.area k.fixed k.block k.area k.counts k.dropped k.changed k.taken k.plans) (Ended r)
      unfolding moves value_made local_made quiet taken_after
      heeds-value z =
          heeds_made (value_made (state_of c k).inner m) b z (ap Ended w) (rw p) (still c k.area k.counts) refl

    -- a contact's state
    pub heeds-contact : fits c (state_of c k) ≡ true → ((a : Answer) → port_after k.port e a ≡ k.port) → (m : Contacted) {r : Outcome} → r ≡ m.outcome
        → make_of c (state_of c k).inner e ≡ contact_made (state_of c k).inner m
        → Heeds c e k (kept_of k.core k.memory k.port m.words k.results k.fixed k.block k.area k.counts k.dropped m.changed k.taken k.plans) (Ended r)
    unfolding moves contact_made local_made quiet taken_after
    heeds-contact b p m w z =
        heeds_made (contact_made (state_of c k).inner m) b z (ap Ended w) (rw p) (still c k.area k.counts) refl

  -- time moves the core and the port
  pub heeds-time : (ms : ℕ) {core : Core} {port : Port} → fits c (state_of c k) ≡ true → core ≡ core_after k.core ms → port ≡ silent_after k.port ms
      → Heeds c (elapsed ms) k (kept_of core k.memory port k.words k.results k.fixed k.block k.area k.counts k.dropped k.changed k.taken k.plans) (Ended Done)
  unfolding short make_of elapsed_made quiet moves port_after taken_after
  heeds-time ms b x y =
      heeds_made (elapsed ms) refl (elapsed_made (state_of c k).inner ms) b refl refl (rw (x, y)) (still c k.area k.counts) refl

  -- storing: all ends of it at once
  pub heeds-store : (f : File) (event : ℕ) (vs : List ℕ) {r : Stored} {area counts dropped : List ℕ} {core : Core} → fits c (state_of c k) ≡ true
      → r ≡ stored_as c (state_of c k).inner.history f.0 vs
      → files_in c area counts
      ≡ applied (added_by r f.0 (spared_in k.memory f.0) (record_chars (record { event = event; clock = k.core.clock }) vs)) (state_of c k).inner.history.files
      → dropped ≡ dropped_after (added_by r f.0 (spared_in k.memory f.0) (record_chars (record { event = event; clock = k.core.clock }) vs)) k.dropped
      → Shifted c (added_by r f.0 (spared_in k.memory f.0) (record_kept (record { event = event; clock = k.core.clock }) vs)) k.area k.counts area counts
      → core ≡ noted_in r k.core
      → Heeds c (local (store f event vs)) k (kept_of core k.memory k.port k.words k.results k.fixed k.block area counts dropped k.changed k.taken k.plans) (Storing r)
  unfolding short make_of local_of store_made changed_by moves port_after
  heeds-store f event vs {r} {area} b o fl d w x =
      let i : Inner = (state_of c k).inner in
      let g = in_range_lem c (state_of c k) b in
      let rec : Record = record { event = event; clock = k.core.clock } in
      let ss : samples_laid (packed c) area k.taken ≡ samples_laid (packed c) k.area k.taken = samples-left (packed-serves c) k.area area k.taken (w.behind (added_calm r _ _ _)) in
      heeds_made (local (store f event vs)) refl (store_made i f.0 (record_chars rec vs) r) b (rw (← o)) refl (rw (x, fl, d, ss))
      (rw (← (kept_as_lem rec vs g.clock)) w) (sym (added_taken r _ _ _ k.taken))

  -- a sample for a number that is no mean
  pub heeds_no_mean : (n : SpecialCalculation) → fits c (state_of c k) ≡ true → is_mean c n.0 ≡ false → Heeds c (local (sample n)) k k (Ended NotValid)
  unfolding short make_of local_of sample_made quiet moves port_after taken_after
  heeds_no_mean n b m = heeds_made (local (sample n)) refl (quiet (Ended NotValid) (state_of c k).inner) b (rw m) refl refl (still c k.area k.counts) refl

  -- and for a mean
  pub heeds-sample : (n : SpecialCalculation) {r : Sampled} {l : Kept} → fits c (state_of c k) ≡ true → is_mean c n.0 ≡ true → r ≡ sampled_for c (state_of c k).inner.areas n.0
      → state_of c l ≡ moves k.port (local (sample n)) (sampled_made c (state_of c k).inner n.0)
      → Shifted c (takes (place_of c n.0) (taken_at c (state_of c k).inner.areas (place_of c n.0))) k.area k.counts l.area l.counts
      → l.taken ≡ set k.taken (place_of c n.0) (length (taken_at c (state_of c k).inner.areas (place_of c n.0))) → Heeds c (local (sample n)) k l (Sampling r)
  unfolding short make_of local_of sample_made sampled_made taken_after
  heeds-sample n b m a x ch t = heeds_made (local (sample n)) refl (sampled_made c (state_of c k).inner n.0) b (rw m) (ap Sampling a) x ch t
