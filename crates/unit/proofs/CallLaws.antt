-- A run of calls of the proved entries gives the state and the trace that the definition gives, and is the run over lent characters by the
-- packed layout. Assumes nothing.
use Rattle.std.specs.Prelude.{None}
use Rattle.std.proofs.Common.{◌≡◌, ℕ, ◌≤◌, List, [], ◌∷◌, map, length, take, sym, refl, ap, ◌∙◌, arith}
use Rattle.chars.proofs.PutLaws.{take-put_front}
use Rattle.model.specs.Config.{Config, is_mean}
use Rattle.model.proofs.Conditions.{by_cond}
use Rattle.model.specs.State.{State}
use Rattle.model.specs.Fits.{fits}
use Rattle.model.specs.Event.{Local, set_word, set_value, pulses, store, contact, sample, Event, stretch, elapsed, local}
use Rattle.model.specs.Step.{Made as MadeOf, quiet, elapsed_made, local_made, word_made, value_made, contact_made, store_made, sampled_made, sample_made, local_of, make_of}
use Rattle.model.specs.Port.{sent_chars}
use Rattle.model.specs.Run.{Result, Entry, short, turned_away, shows, decided, result_of, next_of, change_of, entry_of, after_from, trace_from}
use Rattle.model.specs.declared.Answer.{Answer}
use Rattle.layout.specs.Records.{room_of, packed}
use Rattle.layout.specs.Kept.{Kept, kept_of, state_of}
use Rattle.layout.proofs.RecordsLaws.{packed-serves}
use Rattle.history.specs.Change.{taken_after, OthersStay}
use Rattle.history.specs.Runs.{kept_as, next_laid, answers_laid, after_laid}
use Rattle.history.proofs.RunLaws.{event_untouched}
use Rattle.serve.specs.Changes.{Shifted}
use Rattle.unit.specs.Events.{Heeds}
use Rattle.serve.specs.Stretch.{coming, Turns}
use Rattle.unit.specs.Calls.{NoStretch, results, made_shown, answered_by, Calls, none, heard, heeded}
use Rattle.serve.specs.declared.Made.{Made}

-- the state after the calls is the definition's
pub calls-after : (c : Config) {k l : Kept} {es : List Event} {xs : List Result} → Calls c k es xs l → state_of c l ≡ after_from c (state_of c k) es
unfolding after_from
calls-after c none = refl
calls-after c (heard {es = es} t cs) = calls-after c cs ∙ ap (λ (s : State). after_from c s es) t.next
calls-after c (heeded {es = es} n h cs) = calls-after c cs ∙ ap (λ (s : State). after_from c s es) h.next

-- ---- what is shown

-- the reply is the front of the buffer
shown-turn : (c : Config) {k l : Kept} {lag : ℕ} {s entry exit : List ℕ} {r : Made} → Turns c lag s k l entry exit r
    → made_shown r exit ≡ result_of c (state_of c k) (coming entry lag s)
shown-turn c {k} {l} {lag} {s} {entry} {exit} {r} t =
    let x = result_of c (state_of c k) (coming entry lag s) in
    let g : length x.reply ≤ length entry = omega (arith, t.counted, t.inside) in
    let e : take r.sent exit ≡ x.reply = rw (t.counted, t.written) (take-put_front entry x.reply g) in
    λ i. record { answer = t.answered i; action = t.acted i; reply = e i }

-- an event that is no stretch operates and sends nothing
pub record Still (x : Result) : Type 0 where
  pub action : x.action ≡ None
  pub reply : x.reply ≡ []

still-local : (c : Config) (s : State) (e : Local) → Still (shows s.port (local_of c s.inner e))
unfolding shows local_of word_made value_made contact_made local_made store_made sampled_made sample_made quiet sent_chars
still-local c s (set_word i w) = record { action = refl; reply = refl }
still-local c s (set_value i v) = record { action = refl; reply = refl }
still-local c s (pulses i p) = record { action = refl; reply = refl }
still-local c s (contact i p) = record { action = refl; reply = refl }
still-local c s (store f t vs) = record { action = refl; reply = refl }
still-local c s (sample n) = by_cond {A = MadeOf} (λ m. Still (shows s.port m)) (is_mean c n.0) (λ e. record { action = refl; reply = refl }) (λ e. record { action = refl; reply = refl })

still-shown : (c : Config) (s : State) (e : Event) → NoStretch e → Still (shows s.port (make_of c s.inner e))
unfolding NoStretch shows make_of elapsed_made quiet sent_chars
still-shown c s (stretch t) n = absurd (n t refl)
still-shown c s (elapsed ms) n = record { action = refl; reply = refl }
still-shown c s (local e) n = still-local c s e

still-result : (c : Config) (s : State) (e : Event) → NoStretch e → Still (result_of c s e)
unfolding result_of decided turned_away
still-result c s e n =
    by_cond Still (short e) (λ _. record { action = refl; reply = refl })
    (λ _. by_cond Still (fits c s) (λ _. still-shown c s e n) (λ _. record { action = refl; reply = refl }))

shown_heed : (c : Config) {k l : Kept} {e : Event} {a : Answer} → NoStretch e → Heeds c e k l a → answered_by a ≡ result_of c (state_of c k) e
shown_heed c {k} {l} {e} n h =
    let t = still-result c (state_of c k) e n in
    λ i. record { answer = h.answered i; action = sym t.action i; reply = sym t.reply i }

-- what the calls showed is what the definition's trace shows
pub calls-trace : (c : Config) {k l : Kept} {es : List Event} {xs : List Result} → Calls c k es xs l → xs ≡ results (trace_from c (state_of c k) es)
unfolding results trace_from entry_of
calls-trace c none = refl
calls-trace c (heard {es = es} t cs) =
    λ i. shown-turn c t i ∷ (calls-trace c cs ∙ ap (λ (s : State). results (trace_from c s es)) t.next) i
calls-trace c (heeded {es = es} n h cs) =
    λ i. shown_heed c n h i ∷ (calls-trace c cs ∙ ap (λ (s : State). results (trace_from c s es)) h.next) i

-- ---- the lent characters

-- what a call leaves is what the packed layout leaves
next-laid : (c : Config) (k l : Kept) (e : Event) → state_of c l ≡ next_of c (state_of c k) e → Shifted c (change_of c (state_of c k) e) k.area k.counts l.area l.counts
    → l.taken ≡ taken_after (change_of c (state_of c k) e) k.taken → l ≡ next_laid (packed c) c k e
unfolding next_laid kept_as
next-laid c k l e n ch t =
    λ i. kept_of (n i).inner.core (n i).inner.history.memory (n i).port (n i).inner.areas.words (n i).inner.areas.values (n i).inner.areas.fixed
    (n i).inner.areas.block (ch.moved i) (ch.counted i) (n i).inner.history.dropped (n i).inner.areas.changed (t i) (n i).inner.areas.plans

-- and so what a run of them shows and leaves
pub calls-laid : (c : Config) {k l : Kept} {es : List Event} {xs : List Result} → Calls c k es xs l → (xs ≡ answers_laid (packed c) c k es) × (l ≡ after_laid (packed c) c k es)
unfolding answers_laid after_laid
calls-laid c none = (refl, refl)
calls-laid c (heard {k} {l} {es = es} t cs) =
    let n = next-laid c k l _ t.next t.changed t.taken in
    let r = calls-laid c cs in (
      λ i. shown-turn c t i ∷ (r.0 ∙ ap (λ (m : Kept). answers_laid (packed c) c m es) n) i,
      r.1 ∙ ap (λ (m : Kept). after_laid (packed c) c m es) n,
    )
calls-laid c (heeded {k} {l} {e = e} {es = es} o h cs) =
    let n = next-laid c k l e h.next h.changed h.taken in
    let r = calls-laid c cs in (
      λ i. shown_heed c o h i ∷ (r.0 ∙ ap (λ (m : Kept). answers_laid (packed c) c m es) n) i,
      r.1 ∙ ap (λ (m : Kept). after_laid (packed c) c m es) n,
    )

-- no call touches a character of a file that it does not change, or one behind the room
pub call_untouched : (c : Config) (k l : Kept) (e : Event) → state_of c l ≡ next_of c (state_of c k) e → Shifted c (change_of c (state_of c k) e) k.area k.counts l.area l.counts
    → l.taken ≡ taken_after (change_of c (state_of c k) e) k.taken → room_of c ≤ length k.area → length k.counts ≡ 32 → length k.taken ≡ 16 → OthersStay c (packed c) (change_of c (state_of c k) e) k.area l.area
call_untouched c k l e n ch t room long many =
    rw (ap (λ (m : Kept). m.area) (next-laid c k l e n ch t)) (event_untouched (packed c) c (λ v. packed-serves c) k (unfold packed room_of in room) long many e)

-- the results of a trace, entry by entry
pub results-map : (xs : List Entry) → results xs ≡ map (λ (x : Entry). x.result) xs
unfolding results
results-map [] = refl
results-map (x ∷ xs) = ap (λ (ys : List Result). x.result ∷ ys) (results-map xs)
