-- Over any run a contact's mark is set exactly if it changed more than once since the last reply that carried its group. Assumes nothing.
use Prim.Native.Nat.{ℕ, zero, suc, ◌+◌, ◌/◌, ◌%◌, ◌<◌}
use mathlib.Core.Path.{◌≡◌, refl, sym, ap, ◌∙◌}
use mathlib.Core.List.{List, [], ◌∷◌}
use mathlib.Core.Bool.{true, false, cond, ◌&&◌, and-false}
use native.Mathlib.Omega.{arith}
use lib.ListN.{length, get_or, replicate}
use lib.Seq.{get_or-set_same, get_or-set_other}
use lib.Dec.{eqb, ltb}
use borrow.Author.Tests.{eq-eqb, ne_eqb, ltb-true}
use Rattle.chars.specs.Gather.{gather}
use Rattle.model.specs.Frame.{Request, unit_of, broadcast_unit, heard_of, request_in}
use Rattle.model.specs.Outcome.{number_of, answer_number}
use Rattle.model.specs.Config.{Config, has, is_mean}
use Rattle.model.specs.State.{Areas, Inner, State, fresh_areas, fresh_of}
use Rattle.model.specs.Contacts.{Contacted, contact_of, asks_for, groups_carried, unmarked, untallied, areas_anew, with_contacts}
use Rattle.model.specs.Means.{areas_sampled}
use Rattle.model.specs.Event.{Local, set_word, set_value, pulses, store, contact, sample, Event, stretch, elapsed, local}
use Rattle.model.specs.Step.{Step, with_broadcast, Made, quiet, finished, step_of, areas_left, served, broadcast_made, framed, judged, elapsed_made, local_made, word_made, value_made, contact_made, store_made, sampled_made, sample_made, local_of, make_of}
use Rattle.model.specs.Fits.{fits}
use Rattle.model.specs.Run.{short, turned_away, shows, moves, result_of, next_of, after_from, after}
use Rattle.model.specs.Formed.{Formed}
use Rattle.model.specs.Tally.{Tally, given, started_over, is_in, groups_in, tally_locally, tally_by, tally_from, tally, Tells}
use Rattle.model.specs.declared.Outcome.{Outcome}
use Rattle.model.specs.declared.Outcome.TheVariants.{NotConfigured, BufferShort}
use Rattle.model.specs.declared.Answer.{Answer}
use Rattle.model.specs.declared.Answer.TheVariants.{Ended}
use Rattle.model.proofs.Conditions.{by_cond, by_bool, by_eqb, and_right}
use Rattle.model.proofs.BitLaws.{bit-nothing}
use Rattle.model.proofs.PairLaws.{by_heard}
use Rattle.model.proofs.Pairs.{by_pair}
use Rattle.model.proofs.TurnedAway.{short_away, unfit_away, works}
use Rattle.model.proofs.Shape.{fresh_formed, step_formed}
use Rattle.model.proofs.GroupLaws.{Spares, Told, anew_at, anew-told, broadcast_spares, carried_same, changed-other, given-told, pulses_spares, set-word_spares, spared, step-leaves, unmarked_twice, untallied_twice, word-other}

-- ---- a contact's tally

module _ (n : ℕ) (small : n < 256) (t : Tally) where
  tells-told : (b : Areas) → Tells b n t → Told (get_or b.words (n / 8) 0) (get_or b.changed (n / 8) 0) (n % 8) t
  tells-told b h = record { state = h.state; mark = h.mark; once = h.once }

  told-tells : (b : Areas) {w x : ℕ} → get_or b.words (n / 8) 0 ≡ w → get_or b.changed (n / 8) 0 ≡ x → Told w x (n % 8) t → Tells b n t
  told-tells b e f h = record { state = rw e h.state; mark = rw e h.mark; once = rw f h.once }

  spares_tells : (a b : Areas) → Spares a b → Tells a n t → Tells b n t
  spares_tells a b s h =
      told-tells b (s.words (n / 8) (omega arith)) (ap (λ (l : List ℕ). get_or l (n / 8) 0) s.changed) (tells-told a h)

module _ (n : ℕ) (small : n < 256) (t : Tally) where
  -- groups start anew
  anew-tells : (gs : List ℕ) (b : Areas) → Tells b n t → Tells (areas_anew gs b) n (cond (is_in (n / 8) gs) (started_over t) t)
  unfolding areas_anew
  anew-tells gs b h =
      let w = anew_at unmarked (unfold unmarked in refl) unmarked_twice gs b.words (n / 8) in
      let x = anew_at untallied (unfold untallied in refl) untallied_twice gs b.changed (n / 8) in
      by_bool (is_in (n / 8) gs)
      (λ e. rw e (told-tells n small (started_over t) _ (w ∙ rw e) (x ∙ rw e) (anew-told _ _ (n % 8) t (omega arith) (tells-told n small t b h))))
      (λ e. rw e (told-tells n small t _ (w ∙ rw e) (x ∙ rw e) (tells-told n small t b h)))

  -- what is made of a frame with the request q, of which the reply may have carried these groups
  After : List ℕ → Made → Type 0
  After gs m = Tells m.inner.areas n (cond (eqb (answer_number m.answer) 0 && is_in (n / 8) gs) (started_over t) t)

  unanswered-after : (gs : List ℕ) (o : Answer) (j : Inner) → eqb (answer_number o) 0 ≡ false → Tells j.areas n t → After gs (quiet o j)
  unfolding After quiet
  unanswered-after gs o j e h = rw e h

  module _ (c : Config) (i : Inner) (h : Tells i.areas n t) where
    abbrev told : Request → List ℕ
    told q = groups_carried c.inputs i.areas.fixed q

    served-after : (lag : ℕ) (q : Request) → After (told q) (served c i lag q)
    unfolding After served finished areas_left
    served-after lag q =
        let m = step_of c i lag q in
        let k : Tells m.step.areas n t = spares_tells n small t i.areas _ (step-leaves c i lag q).groups h in
        by_bool (eqb (number_of m.step.says.outcome) 0)
        (λ e. rw (e, carried_same c i lag q) (anew-tells (told q) m.step.areas k)) (λ e. rw e k)

    broadcast_after : (gs : List ℕ) (p : Step) → Spares i.areas p.areas → After gs (broadcast_made i p)
    unfolding broadcast_made
    broadcast_after gs p s =
        by_cond {A = Outcome} (λ o. After gs (quiet (Ended o) (record { core = with_broadcast p.core true; areas = p.areas; history = i.history })))
        (eqb (number_of p.says.outcome) 0) (λ e. unanswered-after gs _ _ refl (spares_tells n small t i.areas _ s h))
        (λ e. unanswered-after gs _ _ refl (spares_tells n small t i.areas _ s h))

    framed-after : (lag : ℕ) (q : Request) → After (told q) (framed c i lag q)
    unfolding framed
    framed-after lag q =
        by_cond (After (told q)) (eqb (unit_of q.address) c.unit) (λ e. served-after lag q)
        (λ e. by_cond (After (told q)) (eqb (unit_of q.address) broadcast_unit) (λ e. broadcast_after _ _ (broadcast_spares c i lag q i.core))
        (λ e. unanswered-after _ _ _ refl h))

  -- function 20h carries none
  none_after : (c : Config) (i : Inner) → Tells i.areas n t → (lag : ℕ) (q : Request) → q.function ≡ 0x20 → After [] (framed c i lag q)
  none_after c i h lag q e =
      let z : groups_carried c.inputs i.areas.fixed q ≡ [] = unfold groups_carried asks_for gather in rw e in
      rw z at (framed-after c i h lag q)

  none-tells : (m : Made) → After [] m → Tells m.inner.areas n t
  unfolding After is_in
  none-tells m k = rw (and-false (eqb (answer_number m.answer) 0)) at k

  module _ (c : Config) (i : Inner) (h : Tells i.areas n t) where
    abbrev word : ℕ → ℕ
    word g = get_or i.areas.words g 0

    abbrev bits : ℕ → ℕ
    bits g = get_or i.areas.changed g 0

    ContactAfter : ℕ → ℕ → Contacted → Type 0
    ContactAfter m s r = Tells (with_contacts i.areas r.words r.changed) n (cond (eqb (number_of r.outcome) 0 && eqb m n) (given s t) t)

    contact-after : (m s : ℕ) → length i.areas.words ≡ 256 → length i.areas.changed ≡ 32
        → ContactAfter m s (contact_of c.inputs i.areas.words i.areas.changed m s)
    unfolding ContactAfter contact_of
    contact-after m s lw lb =
        by_cond (ContactAfter m s) (has c.inputs (m / 8) && ltb s 2)
        (λ e.
        let l : s < 2 = ltb-true s 2 (and_right (has c.inputs (m / 8)) _ e) in
        let k = tells-told n small t i.areas h in
        by_eqb m n
        (λ z. rw (eq-eqb m n z, z)
        (told-tells n small (given s t) _ (get_or-set_same i.areas.words (n / 8) _ 0 (omega arith)) (get_or-set_same i.areas.changed (n / 8) _ 0 (omega arith)) (given-told _ _ (n % 8) s t l k)))
        (λ z. rw (ne_eqb m n z)
        (by_eqb (m / 8) (n / 8)
        (λ y.
        let p : m % 8 ≡ n % 8 → ⊥ = λ x. z (omega arith) in
        rw y
        (told-tells n small t _ (get_or-set_same i.areas.words (n / 8) _ 0 (omega arith)) (get_or-set_same i.areas.changed (n / 8) _ 0 (omega arith))
        (record {
          state = word-other _ _ (m % 8) s (n % 8) l p (λ x. omega arith) ∙ k.state;
          mark = word-other _ _ (m % 8) s (8 + n % 8) l (λ x. omega arith) (λ x. p (omega arith)) ∙ k.mark;
          once = changed-other _ _ (m % 8) s (n % 8) p ∙ k.once;
        })))
        (λ y. told-tells n small t _ (get_or-set_other i.areas.words (m / 8) (n / 8) _ 0 (λ x. y (sym x))) (get_or-set_other i.areas.changed (m / 8) (n / 8) _ 0 (λ x. y (sym x))) k))))
        (λ e. record { state = h.state; mark = h.mark; once = h.once })

  module _ (c : Config) (i : Inner) (h : Tells i.areas n t) where
    judged-after : (lag : ℕ) (s : List ℕ) → After (groups_in c i.areas s (heard_of s)) (judged c i lag s (heard_of s))
    unfolding judged groups_in request_in
    judged-after lag s =
        by_heard s (λ x. After (groups_in c i.areas s x) (judged c i lag s x)) (λ w. framed-after c i h lag _) (unanswered-after [] _ _ refl h)
        (λ p. by_pair c i lag s _ _ p (After [])
        (λ o k. none_after c _ (rw k.inner h) lag _ p.executes.0)
        (λ e. none_after c i h lag _ p.writes.0))
        (unanswered-after [] _ _ refl h)

    local-after : (l : Local) → length i.areas.words ≡ 256 → length i.areas.changed ≡ 32
        → Tells (local_of c i l).inner.areas n (tally_locally n l (local_of c i l).answer t)
    unfolding local_of tally_locally word_made value_made contact_made local_made store_made sampled_made sample_made areas_sampled quiet ContactAfter
    local-after (set_word m w) lw lb = spares_tells n small t i.areas _ (spared i.areas _ (set-word_spares c.inputs i.areas.words m.0 w)) h
    local-after (set_value m v) lw lb = record { state = h.state; mark = h.mark; once = h.once }
    local-after (pulses m p) lw lb = spares_tells n small t i.areas _ (spared i.areas _ (pulses_spares c.inputs i.areas.words m.0 p)) h
    local-after (store f e vs) lw lb = h
    local-after (contact m s) lw lb = contact-after c i h m.0 s lw lb
    local-after (sample m) lw lb =
        by_cond (λ (x : Made). Tells x.inner.areas n t) (is_mean c m.0) (λ e. record { state = h.state; mark = h.mark; once = h.once }) (λ e. h)

-- ---- a run

get_d_replicate : (k j : ℕ) → get_or {A = ℕ} (replicate k 0) j 0 ≡ 0
get_d_replicate zero j = refl
get_d_replicate (suc k) zero = refl
get_d_replicate (suc k) (suc j) = get_d_replicate k j

module _ (n : ℕ) (small : n < 256) (c : Config) where
  make_tells : (i : Inner) (t : Tally) (e : Event) → length i.areas.words ≡ 256 → length i.areas.changed ≡ 32 → Tells i.areas n t
      → Tells (make_of c i e).inner.areas n (tally_by c i.areas n e (make_of c i e).answer t)
  unfolding make_of tally_by elapsed_made quiet After
  make_tells i t (stretch s) lw lb h = judged-after n small t c i h s.lag s.chars
  make_tells i t (elapsed ms) lw lb h = h
  make_tells i t (local l) lw lb h = local-after n small t c i h l lw lb

  -- an event that is turned away
  away_tally : (a : Areas) (e : Event) (o : Outcome) (t : Tally) → eqb (number_of o) 0 ≡ false → tally_by c a n e (Ended o) t ≡ t
  unfolding tally_by tally_locally
  away_tally a (stretch s) o t z = rw z
  away_tally a (elapsed ms) o t z = refl
  away_tally a (local (set_word m w)) o t z = refl
  away_tally a (local (set_value m v)) o t z = refl
  away_tally a (local (pulses m p)) o t z = refl
  away_tally a (local (store f x vs)) o t z = refl
  away_tally a (local (contact m s)) o t z = rw z
  away_tally a (local (sample m)) o t z = refl

  next-tells : (s : State) (t : Tally) (e : Event) → Formed c s → Tells s.inner.areas n t
      → Tells (next_of c s e).inner.areas n (tally_by c s.inner.areas n e (result_of c s e).answer t)
  next-tells s t e f h =
      by_bool (short e)
      (λ a. rw ((short_away c s e a).0, (short_away c s e a).1) (unfold turned_away in rw (away_tally s.inner.areas e BufferShort t refl) h))
      (λ a. by_bool (fits c s)
      (λ b. rw ((works c s e a b).0, (works c s e a b).1) (unfold shows moves in make_tells s.inner t e f.words f.changed h))
      (λ b. rw ((unfit_away c s e a b).0, (unfit_away c s e a b).1) (unfold turned_away in rw (away_tally s.inner.areas e NotConfigured t refl) h)))

  run_tells : (es : List Event) (s : State) (t : Tally) → Formed c s → Tells s.inner.areas n t
      → Tells (after_from c s es).inner.areas n (tally_from c s es n t)
  unfolding after_from tally_from
  run_tells [] s t f h = h
  run_tells (e ∷ es) s t f h = run_tells es (next_of c s e) _ (step_formed c s e f) (next-tells s t e f h)

  fresh-tells : Tells (fresh_of c).inner.areas n (record { state = 0; changes = 0 })
  unfolding fresh_of fresh_areas
  fresh-tells =
      let z : (k : ℕ) → get_or {A = ℕ} (replicate k 0) (n / 8) 0 ≡ 0 = λ k. get_d_replicate k (n / 8) in
      record { state = rw (z 256) (bit-nothing _); mark = rw (z 256) (bit-nothing _); once = rw (z 32) (bit-nothing _) }

  -- THE LAW: over any run from a fresh unit every contact is told as its tally has it (Request 8.1 to 8.5)
  pub contacts_told : (es : List Event) → Tells (after c es).inner.areas n (tally c es n)
  contacts_told es = run_tells es (fresh_of c) _ (fresh_formed c) fresh-tells
