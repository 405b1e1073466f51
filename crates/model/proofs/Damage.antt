-- Demand 3, damage: a damaged frame or pair gets no reply and leaves all but the port as it was, so every later entry is alike. Assumes nothing.
use Rattle.std.specs.Prelude.{None}
use Prim.Native.Nat.{ℕ, zero, suc, ◌+◌, ◌-◌, ◌<◌, ◌≤◌}
use mathlib.Core.Path.{◌≡◌, refl, sym, ap, ◌∙◌}
use mathlib.Core.Logic.{◌⊎◌, inl, inr}
use mathlib.Core.List.{List, [], ◌∷◌, ◌++◌}
use mathlib.Core.Bool.{Bool, true, false, cond}
use lib.ListN.{length, get_or, take, length-append, get_or-append}
use lib.Seq.{take_at}
use native.Mathlib.Omega.{arith}
use borrow.Author.Tests.{le-ltb, lt-ltb}
use Rattle.chars.specs.Word.{word}
use Rattle.chars.proofs.WordLaws.{length-word}
use Rattle.checkword.specs.Check.{check_of}
use Rattle.model.specs.Limits.{write_frame, longest_reply}
use Rattle.model.specs.Frame.{Request, unit_of, heard_of, request_in, with_check, head_chars, reply_chars, frame_chars}
use Rattle.model.specs.Sound.{Sound, request_head, WholePair}
use Rattle.model.specs.Config.{Config, valid_of}
use Rattle.model.specs.State.{Inner, State, fresh_port, fresh_of}
use Rattle.model.specs.Fits.{port_fits, fits}
use Rattle.model.specs.Event.{Stretch, Event, stretch}
use Rattle.model.specs.Step.{Sent, silent, said, Made, quiet, finished, step_of, started_anew, judged, make_of}
use Rattle.model.specs.Port.{port_status, sent_chars}
use Rattle.model.specs.Run.{short, Result, turned_away, shows, moves, decided, result_of, next_of, Entry, entry_of, after_from, trace_from, after}
use Rattle.model.specs.Formed.{AllGiven}
use Rattle.model.specs.Damage.{frame, Good, Damaged, Checked, AlikeReply, AlikeEntry, AlikeTrace, none, more, Spoilt, clean, intact, spoilt}
use Rattle.model.specs.Demand3.{Ends, Unseen, LeavesWrite}
use Rattle.model.specs.Laws.{WriteAnswered}
use Rattle.model.specs.declared.Outcome.{Outcome}
use Rattle.model.specs.declared.Outcome.TheVariants.{NotWhole, CheckWrong, NotConfigured, BufferShort}
use Rattle.model.specs.declared.Answer.TheVariants.{Ended}
use Rattle.model.specs.declared.Mark.{Mark}
use Rattle.model.specs.declared.Frame.{Frame}
use Rattle.model.specs.declared.Heard.TheVariants.{Broken, Wrong, Whole}
use Rattle.model.proofs.Conditions.{by_bool}
use Rattle.model.proofs.FrameLaws.{whole-heard, read_back, sent-characters}
use Rattle.model.proofs.PairLaws.{heard-whole, unheard}
use Rattle.model.proofs.Pairs.{framed-own, seam-ends}
use Rattle.model.proofs.Runs.{by_next, by_run}
use Rattle.model.proofs.Valid.{port-fits, run_fits}
use Rattle.model.proofs.TurnedAway.{short_away, unfit_away, works}

-- ---- a damaged frame is not heard

-- what a master lays out is a good frame
pub good_sent : (q : Request) → Sound q → Good (frame_chars q)
good_sent q h =
    record { characters = sent-characters q h; carries = frame (heard-whole (frame_chars q) (request_head q) (read_back q h).0) }

-- what a working unit makes of it
record Unmoved (i : Inner) (m : Made) : Type 0 where
  answer : (m.answer ≡ Ended NotWhole) ⊎ (m.answer ≡ Ended CheckWrong)
  action : m.action ≡ None
  sent : m.sent ≡ silent
  inner : m.inner ≡ i

unmoved : (c : Config) (i : Inner) (t : Stretch) → Damaged t.chars → Unmoved i (make_of c i (stretch t))
unfolding make_of judged quiet
unmoved c i t d = go (unheard d)
  where
    go : (heard_of t.chars ≡ Broken) ⊎ (heard_of t.chars ≡ Wrong) → Unmoved i (judged c i t.lag t.chars (heard_of t.chars))
    go (inl e) = rw e (record { answer = inl refl; action = refl; sent = refl; inner = refl })
    go (inr e) = rw e (record { answer = inr refl; action = refl; sent = refl; inner = refl })

-- ---- the port shows only in the fifth character and in the check

same_chars : (k l m n a b o p : ℕ) (s : List ℕ) (u v w x i : ℕ)
    → i + 2 < length (k ∷ l ∷ m ∷ n ∷ a ∷ o ∷ p ∷ s ++ (u ∷ v ∷ [])) → (i ≡ 4 → ⊥)
    → get_or (k ∷ l ∷ m ∷ n ∷ a ∷ o ∷ p ∷ s ++ (u ∷ v ∷ [])) i 0 ≡ get_or (k ∷ l ∷ m ∷ n ∷ b ∷ o ∷ p ∷ s ++ (w ∷ x ∷ [])) i 0
same_chars k l m n a b o p s u v w x zero h ne = refl
same_chars k l m n a b o p s u v w x (suc zero) h ne = refl
same_chars k l m n a b o p s u v w x (suc (suc zero)) h ne = refl
same_chars k l m n a b o p s u v w x (suc (suc (suc zero))) h ne = refl
same_chars k l m n a b o p s u v w x (suc (suc (suc (suc zero)))) h ne = absurd (ne refl)
same_chars k l m n a b o p s u v w x (suc (suc (suc (suc (suc zero))))) h ne = refl
same_chars k l m n a b o p s u v w x (suc (suc (suc (suc (suc (suc zero)))))) h ne = refl
same_chars k l m n a b o p s u v w x (suc (suc (suc (suc (suc (suc (suc i))))))) h ne =
    let j : i < length s = omega (arith, length-append s (u ∷ v ∷ [])) in
    get_or-append s _ 0 i j ∙ sym (get_or-append s _ 0 i j)

-- what stands before the last two of a list with its check is the list
checked-sent : (z : List ℕ) → with_check z ≡ with_check (take (length (with_check z) - 2) (with_check z))
unfolding with_check
checked-sent z =
    let l : length z ≡ length (z ++ word (check_of z)) - 2 = rw (length-append, length-word) (omega arith) in
    ap (λ (x : List ℕ). x ++ word (check_of x)) (sym (take_at z (word (check_of z)) (length (z ++ word (check_of z)) - 2) l))

checked-chars : (m : Mark) (x : Sent) → Checked (sent_chars m x)
unfolding sent_chars reply_chars
checked-chars m silent = inl refl
checked-chars m (said r) = inr (checked-sent _)

module _ (a b : Mark) where
  long-chars : (x : Sent) → length (sent_chars a x) ≡ length (sent_chars b x)
  unfolding sent_chars reply_chars head_chars with_check word
  long-chars silent = refl
  long-chars (said r) = simp length-append

  same_sent : (x : Sent) (i : ℕ) → i + 2 < length (sent_chars a x) → (i ≡ 4 → ⊥) → get_or (sent_chars a x) i 0 ≡ get_or (sent_chars b x) i 0
  unfolding sent_chars reply_chars head_chars with_check word
  same_sent silent i l ne = refl
  same_sent (said r) i l ne = same_chars _ _ _ _ (port_status a) (port_status b) _ _ r.chars _ _ _ _ i l ne

  alike-chars : (x : Sent) → AlikeReply (sent_chars a x) (sent_chars b x)
  alike-chars x = record { long = long-chars x; same = same_sent x; left = checked-chars a x; right = checked-chars b x }

alike-none : AlikeReply [] []
alike-none = record { long = refl; same = λ i l ne. refl; left = inl refl; right = inl refl }

-- ---- two units that differ in the port alone

pub record Twins (s t : State) : Type 0 where
  pub inner : s.inner ≡ t.inner
  left : port_fits s.port ≡ true
  right : port_fits t.port ≡ true

module _ (c : Config) (s t : State) (w : Twins s t) where
  -- one fits if the other does
  both_fit : fits c s ≡ fits c t
  unfolding fits
  both_fit = rw (w.left, w.right, w.inner)

  pub twins_next : (e : Event) → Twins (next_of c s e) (next_of c t e)
  unfolding next_of decided moves
  twins_next e = rw both_fit (go (short e) (fits c t))
    where
      go : (a b : Bool) → Twins (cond a s (cond b (moves s.port e (make_of c s.inner e)) s)) (cond a t (cond b (moves t.port e (make_of c t.inner e)) t))
      go true b = w
      go false true =
          record {
            inner = ap (λ (i : Inner). (make_of c i e).inner) w.inner;
            left = port-fits s.port e _ w.left;
            right = port-fits t.port e _ w.right;
          }
      go false false = w

  pub alike_entry : (e : Event) → AlikeEntry (entry_of c s e) (entry_of c t e)
  unfolding entry_of result_of decided shows turned_away
  alike_entry e = rw both_fit (go (short e) (fits c t))
    where
      go : (a b : Bool) → AlikeEntry
          (record { clock = s.inner.core.clock; event = e; result = cond a (turned_away BufferShort) (cond b (shows s.port (make_of c s.inner e)) (turned_away NotConfigured)) })
          (record { clock = t.inner.core.clock; event = e; result = cond a (turned_away BufferShort) (cond b (shows t.port (make_of c t.inner e)) (turned_away NotConfigured)) })
      go true b = record { clock = ap (λ (i : Inner). i.core.clock) w.inner; event = refl; answer = refl; action = refl; reply = alike-none }
      go false false = record { clock = ap (λ (i : Inner). i.core.clock) w.inner; event = refl; answer = refl; action = refl; reply = alike-none }
      go false true =
          record {
            clock = ap (λ (i : Inner). i.core.clock) w.inner;
            event = refl;
            answer = ap (λ (i : Inner). (make_of c i e).answer) w.inner;
            action = ap (λ (i : Inner). (make_of c i e).action) w.inner;
            reply = rw w.inner (alike-chars s.port.mark t.port.mark (make_of c t.inner e).sent);
          }

-- they stay so, and their traces are alike
alike : (c : Config) (s t : State) (es : List Event) → Twins s t → AlikeTrace (trace_from c s es) (trace_from c t es) × Twins (after_from c s es) (after_from c t es)
unfolding trace_from after_from
alike c s t [] w = (none, w)
alike c s t (e ∷ es) w =
    let k = alike c (next_of c s e) (next_of c t e) es (twins_next c s t w e) in
    (more (alike_entry c s t w e) k.0, k.1)

-- ---- a run

pub after_append : (c : Config) (s : State) (xs ys : List Event) → after_from c s (xs ++ ys) ≡ after_from c (after_from c s xs) ys
unfolding after_from
after_append c s [] ys = refl
after_append c s (x ∷ xs) ys = after_append c (next_of c s x) xs ys

-- a trace of events in two parts
pub trace_append : (c : Config) (s : State) (xs ys : List Event) → trace_from c s (xs ++ ys) ≡ trace_from c s xs ++ trace_from c (after_from c s xs) ys
unfolding trace_from after_from
trace_append c s [] ys = refl
trace_append c s (x ∷ xs) ys = ap (λ (z : List Entry). entry_of c s x ∷ z) (trace_append c (next_of c s x) xs ys)

fresh-port : (c : Config) → port_fits (fresh_of c).port ≡ true
unfolding fresh_of fresh_port port_fits
fresh-port c = refl

pub run_port : (c : Config) (es : List Event) → port_fits (after c es).port ≡ true
unfolding moves
run_port c es =
    by_run (λ xs s. port_fits s.port ≡ true) c
    (λ s e xs h. by_next (λ t. port_fits t.port ≡ true) c s e h (λ b. port-fits s.port e _ h))
    (fresh_of c) es (fresh-port c)

module _ (c : Config) (s : State) (t : Stretch) (d : Damaged t.chars) where
  pub damaged_twins : port_fits s.port ≡ true → Twins (next_of c s (stretch t)) s
  unfolding moves
  damaged_twins h =
      by_next (λ x. Twins x s) c s (stretch t) (record { inner = refl; left = h; right = h })
      (λ b. record { inner = (unmoved c s.inner t d).inner; left = port-fits s.port (stretch t) _ h; right = h })

  -- however it ends, nothing is sent and nothing operates
  away_silent : (o : Outcome) → result_of c s (stretch t) ≡ turned_away o → ((result_of c s (stretch t)).reply ≡ []) × ((result_of c s (stretch t)).action ≡ None)
  unfolding turned_away
  away_silent o e = (ap (λ (r : Result). r.reply) e, ap (λ (r : Result). r.action) e)

  made_silent : result_of c s (stretch t) ≡ shows s.port (make_of c s.inner (stretch t))
      → ((result_of c s (stretch t)).reply ≡ []) × ((result_of c s (stretch t)).action ≡ None)
  unfolding shows sent_chars
  made_silent e =
      let u = unmoved c s.inner t d in
      (ap (λ (r : Result). r.reply) e ∙ ap (sent_chars s.port.mark) u.sent, ap (λ (r : Result). r.action) e ∙ u.action)

  damaged-silent : ((result_of c s (stretch t)).reply ≡ []) × ((result_of c s (stretch t)).action ≡ None)
  damaged-silent =
      let e : Event = stretch t in
      by_bool (short e) (λ a. away_silent BufferShort (short_away c s e a).0)
      (λ a. by_bool (fits c s) (λ b. made_silent (works c s e a b).0) (λ b. away_silent NotConfigured (unfit_away c s e a b).0))

  damaged-ends : (xs : List Event) → (valid_of c ≡ true → AllGiven xs → fits c s ≡ true) → Ends c xs t.room (result_of c s (stretch t)).answer
  unfolding short turned_away shows fits
  damaged-ends xs f =
      let e : Event = stretch t in
      record {
        short = λ l. ap (λ (r : Result). r.answer) (short_away c s e (lt-ltb t.room longest_reply l)).0;
        invalid = λ l v. ap (λ (r : Result). r.answer) (unfit_away c s e (le-ltb t.room longest_reply l) (rw v)).0;
        damaged = λ l v g. rw (works c s e (le-ltb t.room longest_reply l) (f v g)).0 (unmoved c s.inner t d).answer;
      }

-- THE THEOREM: of a damaged stretch nothing is seen but in the port
pub damage : (c : Config) (xs : List Event) (t : Stretch) → Damaged t.chars → (ys : List Event) → Unseen c xs t ys
unfolding after_from
damage c xs t d ys =
    let s = after c xs in
    let e : Event = stretch t in
    let a = alike c (next_of c s e) s ys (damaged_twins c s t d (run_port c xs)) in
    let q = damaged-silent c s t d in
    record {
      ends = damaged-ends c s t d xs (run_fits c xs);
      unanswered = q.0;
      rests = q.1;
      later = rw (after_append c (fresh_of c) xs (e ∷ [])) a.0;
      kept = rw (after_append c (fresh_of c) xs (e ∷ ys), after_append c (fresh_of c) xs ys) a.1.inner;
    }

-- a pair cut at its seam is the WRITE that it leaves, no damage
module _ (c : Config) (xs : List Event) (t : Stretch) {s : List ℕ} {w x : Frame} (p : WholePair s w x) (e : t.chars ≡ take write_frame s) where
  left-heard : heard_of t.chars ≡ Whole w
  left-heard = rw e (whole-heard (take write_frame s) w p.write)

  left_made : (i : Inner) → unit_of w.address ≡ c.unit → make_of c i (stretch t) ≡ started_anew c (request_in w (take write_frame s)) (finished i (request_in w (take write_frame s)) (step_of c i t.lag (request_in w (take write_frame s))))
  unfolding make_of judged request_in
  left_made i own = rw (left-heard, e) (framed-own c i t.lag (request_in w (take write_frame s)) own)

  left-ends : longest_reply ≤ t.room → valid_of c ≡ true → AllGiven xs → unit_of w.address ≡ c.unit → WriteAnswered (result_of c (after c xs) (stretch t)).answer
  unfolding short shows finished
  left-ends l v g own =
      let i = (after c xs).inner in
      rw ((works c (after c xs) (stretch t) (le-ltb t.room longest_reply l) (run_fits c xs v g)).0, left_made i own)
      (record { outcome = _; ends = seam-ends c i t.lag s w x p own; answer = refl })

  pub seam : LeavesWrite c xs t w
  seam = record { heard = left-heard; ends = left-ends }

-- any number of damaged stretches
spoilt_from : (c : Config) {xs ys : List Event} → Spoilt xs ys → (s t : State) → Twins s t → Twins (after_from c s xs) (after_from c t ys)
unfolding after_from
spoilt_from c clean s t w = w
spoilt_from c (intact {e = e} k) s t w = spoilt_from c k (next_of c s e) (next_of c t e) (twins_next c s t w e)
spoilt_from c (spoilt {t = b} d k) s t w =
    let v = damaged_twins c s b d w.left in
    spoilt_from c k (next_of c s (stretch b)) t (record { inner = v.inner ∙ w.inner; left = v.left; right = w.right })

pub spoilt-kept : (c : Config) {xs ys : List Event} → Spoilt xs ys → (after c xs).inner ≡ (after c ys).inner
spoilt-kept c k = (spoilt_from c k (fresh_of c) (fresh_of c) (record { inner = refl; left = fresh-port c; right = fresh-port c })).inner
