-- One event moves the records as the line shows: a record stored, with one dropped or none, and any other event. Assumes nothing.
use Prim.Native.Nat.{ℕ, suc, ◌+◌, ◌≤◌, ◌<◌, min}
use mathlib.Core.Path.{◌≡◌, refl, sym, ap, ◌∙◌}
use mathlib.Core.List.{List, [], ◌∷◌, ◌++◌, append_assoc}
use mathlib.Core.Bool.{Bool, true, false, cond}
use lib.ListN.{length, get_or, set, take, drop, take-append-drop, length-append}
use lib.Seq.{take-append-le, take_at, length-take-le, get_or-set_same, get_or-set_other}
use lib.Dec.{eqb}
use native.Mathlib.Omega.{arith}
use borrow.Author.Tests.{eqb-true, eqb-false, eq-eqb}
use Rattle.model.specs.Limits.{most_dropped}
use Rattle.model.specs.Frame.{heard_of}
use Rattle.model.specs.Config.{Config, size_of, is_mean}
use Rattle.model.specs.State.{Files, Inner, held_in, store_in}
use Rattle.model.specs.Change.{adds, swaps, applied, dropped_after, added_by, changed_by}
use Rattle.model.specs.History.{flat, history_chars, record_chars, spared_in, stored_as}
use Rattle.model.specs.Event.{Local, set_word, set_value, pulses, store, contact, sample, Event, stretch, elapsed, local}
use Rattle.model.specs.Step.{Made, quiet, elapsed_made, local_made, word_made, value_made, contact_made, store_made, sampled_made, sample_made, local_of, make_of}
use Rattle.model.specs.Port.{sent_chars}
use Rattle.model.specs.Formed.{AllSized}
use Rattle.model.specs.Line.{other, shown_by, Latest, gave, latest_after, was_kept, stored_locally, stored_by, was_swapped, drops_locally, drops_by, spared_by}
use Rattle.model.specs.Demand3.{without, remembered_as}
use Rattle.model.specs.declared.Outcome.{Outcome}
use Rattle.model.specs.declared.Stored.{Stored}
use Rattle.model.specs.declared.Stored.TheVariants.{Kept, Swapped, Full, NotEquipped, WrongValues}
use Rattle.model.specs.declared.Answer.TheVariants.{Ended}
use Rattle.model.specs.declared.File.{File}
use Rattle.model.specs.declared.Mark.{Mark}
use Rattle.std.specs.Prelude.{None, Option, Some}
use Rattle.model.specs.declared.HistoryReply.{HistoryReply}
use Rattle.model.proofs.Conditions.{by_cond, false-true}
use Rattle.model.proofs.FileLaws.{held-store, held_swap, TakenIn, stored-kept, stored-swapped}
use Rattle.model.proofs.Shape.{taken_there}
use Rattle.model.proofs.Releases.{Holds, Matches, counts_on, Moved, shown-else, never, released-other, still, judged_fine}
use Rattle.model.proofs.Shown.{shown_unheard}

-- the same, of any event
abbrev pub FineEvent : Config → Latest → Inner → Mark → Event → Made → Type 0
FineEvent c l i mark e m =
    Moved l i.history (shown_by c e (sent_chars mark m.sent)) (drops_by e m.answer) (stored_by e i.core.clock m.answer) m.inner.history

-- the records that the line shows as sent are as many as the memory spares
pub spared-long : (w : Option HistoryReply) (fs : Files) (g : ℕ) → Holds w fs → length (spared_by (remembered_as w fs) g) ≡ spared_in w g
unfolding spared_by spared_in
spared-long None fs g h = refl
spared-long (Some t) fs g h =
    by_both (eqb t.file.0 g) (length-take-le t.quantity (held_in fs t.file.0) h.0)
  where
    by_both : (b : Bool) → length (take t.quantity (held_in fs t.file.0)) ≡ t.quantity
        → length (cond b (take t.quantity (held_in fs t.file.0)) []) ≡ cond b t.quantity 0
    by_both true e = e
    by_both false e = refl

-- and stand at the front
pub spared_front : (w : Option HistoryReply) (fs : Files) (g : ℕ) → held_in fs g ≡ spared_by (remembered_as w fs) g ++ drop (spared_in w g) (held_in fs g)
unfolding spared_by spared_in
spared_front None fs g = refl
spared_front (Some t) fs g = go (eqb t.file.0 g) refl
  where
    go : (b : Bool) → eqb t.file.0 g ≡ b → held_in fs g ≡ cond b (take t.quantity (held_in fs t.file.0)) [] ++ drop (cond b t.quantity 0) (held_in fs g)
    go true e = rw (eqb-true t.file.0 g e) (sym (take-append-drop t.quantity (held_in fs g)))
    go false e = refl

-- records without one at place n, and some more: the n before it are the same
without_front : (d : Bool) (n : ℕ) (rs new : List (List ℕ)) → n ≤ length rs → (d ≡ true → 0 < length new)
    → (take n rs ≡ take n (without d n rs ++ new)) × (n ≤ length (without d n rs ++ new))
unfolding without
without_front true n rs new h k =
    let e = length-take-le n rs h in
    let m = k refl in
    (sym (rw append_assoc (take_at (take n rs) (drop (suc n) rs ++ new) n e)), omega (arith, length-append (take n rs ++ drop (suc n) rs) new, length-append (take n rs) (drop (suc n) rs)))
without_front false n rs new h k = (sym (take-append-le n rs new h), omega (arith, length-append rs new))

-- files with more at their ends, and perhaps less behind what is spared: the remembered records stay the oldest
same_store : (w : Option HistoryReply) (fs gs : Files) (drops : ℕ → Bool) (new : ℕ → List (List ℕ)) → ((g : ℕ) → held_in gs g ≡ without (drops g) (spared_in w g) (held_in fs g) ++ new g)
    → ((g : ℕ) → drops g ≡ true → 0 < length (new g)) → Holds w fs → (remembered_as w fs ≡ remembered_as w gs) × Holds w gs
unfolding history_chars spared_in
same_store None fs gs drops new e k h = (refl, tt)
same_store (Some t) fs gs drops new e k h =
    let n = t.quantity in
    let f = t.file.0 in
    let o = rw (eq-eqb f f refl) at (e f) in
    let z = rw (← o) at (without_front (drops f) n (held_in fs f) (new f) h.0 (k f)) in
    (ap (λ (rs : List (List ℕ)). gave t.master f ((n + cond t.more 128 0) ∷ flat rs) rs) z.0, (z.1, h.1))

module _ (c : Config) (l : Latest) (i : Inner) (mark : Mark) (t : Matches i.history l) where
  abbrev fs : Files
  fs = i.history.files

  abbrev w : Option HistoryReply
  w = i.history.memory

  -- a record stored, and one dropped for it or none
  taken-moved : (f : ℕ) (r : List ℕ) (drops : ℕ → Bool) (gs : Files) (ns : List ℕ)
      → ((g : ℕ) → held_in gs g ≡ without (drops g) (spared_in w g) (held_in fs g) ++ cond (eqb f g) (r ∷ []) [])
      → ((g : ℕ) → drops g ≡ true → eqb f g ≡ true)
      → ((g : ℕ) → get_or ns g 0 ≡ counts_on (drops g) (get_or i.history.dropped g 0))
      → Moved l i.history other drops (λ g. cond (eqb f g) (r ∷ []) []) (record { memory = w; files = gs; dropped = ns })
  unfolding latest_after
  taken-moved f r drops gs ns e own n =
      let s = same_store w fs gs drops (λ g. cond (eqb f g) (r ∷ []) []) e (λ g d. rw (own g d) (omega arith)) t.holds in
      let long : (g : ℕ) → length (spared_by l g) ≡ spared_in w g = λ g. rw t.latest (spared-long w fs g t.holds) in
      record {
        repeats = shown-else refl;
        moved = λ g. ap (λ (k : ℕ). without (drops g) k (held_in fs g) ++ cond (eqb f g) (r ∷ []) []) (long g) ∙ sym (e g) ∙ ap (λ (x : List (List ℕ)). x ++ held_in gs g) (sym (released-other l g));
        counted = n;
        matches = record { latest = t.latest ∙ s.0; holds = s.1 };
      }

  adds-moved : (f : ℕ) (r : List ℕ) → f < length fs → Moved l i.history other never (λ g. cond (eqb f g) (r ∷ []) []) (changed_by (adds f r) w i.history)
  unfolding changed_by applied dropped_after without
  adds-moved f r there = taken-moved f r never (store_in fs f r) i.history.dropped (λ g. held-store fs f g r there) (λ g d. false-true d) (λ g. refl)

  -- the place of a drop, in its file, is behind what is spared there
  place : (f g : ℕ) (b : Bool) → eqb f g ≡ b → without b (spared_in w f) (held_in fs g) ≡ without b (spared_in w g) (held_in fs g)
  unfolding without
  place f g true e = rw (eqb-true f g e)
  place f g false e = refl

  count_set : (f g : ℕ) (ns : List ℕ) → f < length ns → (b : Bool) → eqb f g ≡ b → get_or (set ns f (min (get_or ns f 0 + 1) most_dropped)) g 0 ≡ counts_on b (get_or ns g 0)
  count_set f g ns h true e = rw (← eqb-true f g e) (get_or-set_same ns f _ 0 h)
  count_set f g ns h false e = get_or-set_other ns f g _ 0 (λ k. eqb-false f g e (sym k))

  swaps-moved : (f : ℕ) (r : List ℕ) → f < length fs → f < length i.history.dropped
      → Moved l i.history other (eqb f) (λ g. cond (eqb f g) (r ∷ []) []) (changed_by (swaps f (spared_in w f) r) w i.history)
  unfolding changed_by dropped_after
  swaps-moved f r there known =
      taken-moved f r (eqb f) (applied (swaps f (spared_in w f) r) fs) _
      (λ g. held_swap fs f g (spared_in w f) r there ∙ ap (λ (x : List (List ℕ)). x ++ cond (eqb f g) (r ∷ []) []) (place f g (eqb f g) refl))
      (λ g d. d) (λ g. count_set f g i.history.dropped known (eqb f g) refl)

  store_fine : (f : File) (e : ℕ) (vs : List ℕ) (x : Stored) → (x ≡ Kept → TakenIn c f.0 (length vs)) → (x ≡ Swapped → TakenIn c f.0 (length vs)) → length fs ≡ 32 → length i.history.dropped ≡ 32
      → FineEvent c l i mark (local (store f e vs)) (store_made i f.0 (record_chars (record { event = e; clock = i.core.clock }) vs) x)
  unfolding store_made added_by changed_by applied dropped_after sent_chars shown_by stored_by stored_locally was_kept drops_by drops_locally was_swapped
  store_fine f e vs Kept k s long known = adds-moved f.0 _ (taken_there c f.0 (length vs) long (k refl))
  store_fine f e vs Swapped k s long known = swaps-moved f.0 _ (taken_there c f.0 (length vs) long (s refl)) (taken_there c f.0 (length vs) known (s refl))
  store_fine f e vs Full k s long known = still t refl
  store_fine f e vs NotEquipped k s long known = still t refl
  store_fine f e vs WrongValues k s long known = still t refl

  -- an event that is turned away shows nothing, stores nothing and keeps the history
  pub away_fine : (o : Outcome) (e : Event) → Moved l i.history (shown_by c e []) (drops_by e (Ended o)) (stored_by e i.core.clock (Ended o)) i.history
  unfolding shown_by stored_by stored_locally was_kept drops_by drops_locally was_swapped
  away_fine o (stretch s) = still t (shown_unheard c s.chars (heard_of s.chars))
  away_fine o (elapsed ms) = still t refl
  away_fine o (local (set_word n w)) = still t refl
  away_fine o (local (set_value n v)) = still t refl
  away_fine o (local (pulses n p)) = still t refl
  away_fine o (local (contact n s)) = still t refl
  away_fine o (local (store f e vs)) = still t refl
  away_fine o (local (sample n)) = still t refl

  module _ (sized : (g : ℕ) → AllSized (size_of c.values g) (held_in i.history.files g)) (long : length i.history.files ≡ 32) (known : length i.history.dropped ≡ 32) where
    local_fine : (e : Local) → FineEvent c l i mark (local e) (local_of c i e)
    unfolding local_of shown_by stored_by stored_locally drops_by drops_locally quiet sent_chars word_made value_made contact_made local_made sampled_made sample_made
    local_fine (set_word n w) = still t refl
    local_fine (set_value n v) = still t refl
    local_fine (pulses n p) = still t refl
    local_fine (contact n s) = still t refl
    local_fine (store f e vs) =
        store_fine f e vs (stored_as c i.history f.0 vs) (λ e. (stored-kept c i.history f.0 vs e).taken) (λ e. (stored-swapped c i.history f.0 vs e).taken) long known
    local_fine (sample n) = by_cond (FineEvent c l i mark (local (sample n))) (is_mean c n.0) (λ e. still t refl) (λ e. still t refl)

    pub made_fine : (e : Event) → FineEvent c l i mark e (make_of c i e)
    unfolding make_of shown_by stored_by drops_by quiet sent_chars elapsed_made
    made_fine (stretch s) = judged_fine c l i mark t sized s.lag s.chars
    made_fine (elapsed ms) = still t refl
    made_fine (local e) = local_fine e
