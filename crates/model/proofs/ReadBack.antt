-- Every reply of a unit in any run from fresh, to any request of a master, is read back as what was sent. Assumes nothing.
use Prim.Native.Nat.{ℕ, ◌+◌, ◌/◌, ◌≤◌, ◌<◌}
use mathlib.Core.Path.{◌≡◌, refl, sym, ap, ◌∙◌, subst}
use mathlib.Core.List.{List, []}
use mathlib.Core.Bool.{true, false}
use lib.ListN.{length, get_or}
use lib.Dec.{eqb, leb}
use native.Mathlib.Omega.{arith}
use borrow.Author.Tests.{eqb-true, leb-true, eq-eqb, ne_eqb, le-leb}
use Rattle.chars.specs.Word.{Characters}
use Rattle.model.specs.Frame.{Request, unit_of, master_of, broadcast_unit, frame_chars}
use Rattle.model.specs.Sound.{Sound}
use Rattle.model.specs.Outcome.{sending_of, function_bits, reply_function}
use Rattle.model.specs.Config.{Config, within, valid_of}
use Rattle.model.specs.State.{Inner, State}
use Rattle.model.specs.Means.{equipped_now}
use Rattle.model.specs.Control.{breaks}
use Rattle.model.specs.Fits.{master_fits, core_fits, areas_fit, port_fits, fits}
use Rattle.model.specs.Event.{Stretch, Event, stretch}
use Rattle.model.specs.Step.{
  scanned,
  controlled,
  other_of,
  status_of,
  Said,
  Sent,
  silent,
  said,
  sent_as,
  Made,
  quiet,
  Stepped,
  finished,
  alone,
  broken_off,
  telling,
  step_of,
  started_anew,
  served,
  broadcast_made,
  framed,
  judged,
  make_of,
}
use Rattle.model.specs.Port.{sent_chars}
use Rattle.model.specs.Run.{short, Result, turned_away, shows, result_of, after}
use Rattle.model.specs.Formed.{AllGiven, Formed}
use Rattle.model.specs.Line.{data_of}
use Rattle.model.specs.Believe.{empty, all_stamped, could_tell, could_refuse}
use Rattle.model.specs.Poll.{Polling, Wish, builds, to_one, read_for, read_to, read_when, reads}
use Rattle.model.specs.Understood.{asks_any, buildable, Outstanding, poll, turn, InFiles, read_by, ReadBack, silence, reply}
use Rattle.model.specs.Demand3.{held_by}
use Rattle.model.specs.declared.Outcome.{Outcome}
use Rattle.model.specs.declared.Outcome.TheVariants.{
  Done,
  NotWhole,
  CheckWrong,
  OtherUnit,
  BroadcastDone,
  WriteTaken,
  Unknown,
  WrongCount,
  NotValid,
  TooLong,
  NothingAgain,
  SelectTimedOut,
  BrokenOff,
  SelectHeld,
  NothingWaits,
  WriteHeld,
  BroadcastRefused,
  NotConfigured,
  BufferShort,
}
use Rattle.model.specs.declared.Answer.TheVariants.{Ended}
use Rattle.model.specs.declared.Sending.{Sending}
use Rattle.model.specs.declared.Sending.TheVariants.{Normal, Nop, Rst, Unanswered}
use Rattle.model.specs.declared.Mark.{Mark}
use Rattle.model.specs.declared.Read.{Read}
use Rattle.model.specs.declared.Read.TheVariants.{Normal as ReadNormal, Nop as ReadNop, Rst as ReadRst}
use Rattle.model.proofs.Conditions.{by_cond, by_bool, and_left, and_right}
use Rattle.model.proofs.FrameLaws.{read_back}
use Rattle.model.proofs.Shape.{run_formed}
use Rattle.model.proofs.TurnedAway.{short_away, unfit_away, works}
use Rattle.model.proofs.Asking.{Kind, inputs, calculations, history, tables, control, internal, return, kind_of, asks-function, understood}
use Rattle.model.proofs.ReplyLaws.{reply-function, reply_data, reply_over}
use Rattle.model.proofs.Telling.{could_send, Answers, reset, unlike}
use Rattle.model.proofs.TellsScans.{inputs-answer, tables_answer}
use Rattle.model.proofs.TellsValues.{calculations-answer}
use Rattle.model.proofs.TellsOrders.{control_answer, internal_answer}
use Rattle.model.proofs.TellsReturn.{return_answer}
use Rattle.model.proofs.Stamps.{fitting-clock, fitting-history, run_stamped}
use Rattle.model.proofs.TellsHistory.{Recorded, history-answer}

-- ---- a reply is read by its outcome

-- an outcome that is sent so has the number of a reply that is read so
ReadsAs : Sending → Read → Type 0
ReadsAs Normal x = x ≡ ReadNormal
ReadsAs Nop x = x ≡ ReadNop
ReadsAs Rst x = x ≡ ReadRst
ReadsAs Unanswered x = Unit {0}

reads_as : (o : Outcome) → ReadsAs (sending_of o) (read_by o)
unfolding ReadsAs read_by within
reads_as Done = refl
reads_as NotWhole = tt
reads_as CheckWrong = tt
reads_as OtherUnit = tt
reads_as BroadcastDone = tt
reads_as WriteTaken = tt
reads_as Unknown = refl
reads_as WrongCount = refl
reads_as NotValid = refl
reads_as TooLong = refl
reads_as NothingAgain = refl
reads_as SelectTimedOut = refl
reads_as BrokenOff = refl
reads_as SelectHeld = refl
reads_as NothingWaits = refl
reads_as WriteHeld = refl
reads_as BroadcastRefused = tt
reads_as NotConfigured = tt
reads_as BufferShort = tt

module _ (q : Request) (r ys : List ℕ) (one : to_one q ≡ true) (is : data_of r ≡ ys) where
  normal_read : get_or r 2 0 ≡ q.function → could_tell q ys ≡ true → read_for q r ≡ ReadNormal
  unfolding read_for
  normal_read f k = rw (eq-eqb (get_or r 2 0) q.function f, is, one, k)

  nop_read : get_or r 2 0 ≡ q.function + 0x40 → could_refuse q ys ≡ true → read_for q r ≡ ReadNop
  unfolding read_for
  nop_read f k = rw (ne_eqb (get_or r 2 0) q.function (λ z. omega arith), eq-eqb (get_or r 2 0) (q.function + 0x40) f, is, one, k)

  rst_read : get_or r 2 0 ≡ q.function + 0x80 → empty ys ≡ true → read_for q r ≡ ReadRst
  unfolding read_for
  rst_read f k =
      rw (ne_eqb (get_or r 2 0) q.function (λ z. omega arith), ne_eqb (get_or r 2 0) (q.function + 0x40) (λ z. omega arith), eq-eqb (get_or r 2 0) (q.function + 0x80) f, is, one, k)

-- ---- what is sent

by_sending : {X : Type 0} (s : Sending) → (s ≡ Unanswered → X) → ((s ≡ Unanswered → ⊥) → X) → X
by_sending Normal f g = g (λ e. let z : ◌≡◌ {A = ℕ} 0 1 = cc in omega arith)
by_sending Nop f g = g (λ e. let z : ◌≡◌ {A = ℕ} 0 1 = cc in omega arith)
by_sending Rst f g = g (λ e. let z : ◌≡◌ {A = ℕ} 0 1 = cc in omega arith)
by_sending Unanswered f g = f refl

sent-nothing : (s : Sending) (x : Said) → s ≡ Unanswered → sent_as s x ≡ silent
unfolding sent_as
sent-nothing s x e = rw e

sent_something : (s : Sending) (x : Said) → (s ≡ Unanswered → ⊥) → sent_as s x ≡ said x
unfolding sent_as
sent_something Normal x n = refl
sent_something Nop x n = refl
sent_something Rst x n = refl
sent_something Unanswered x n = absurd (n refl)

-- ---- a frame for this unit

module _ (i : Inner) (q : Request) (mark : Mark) (one : to_one q ≡ true) (low : q.function < 64) where
  -- what is said for an outcome
  abbrev saying : Outcome → List ℕ → Said
  saying o ys = record { address = q.address; function = reply_function q.function o; status = status_of i.core; chars = ys }

  reply_bits : (o : Outcome) (s : Sending) → sending_of o ≡ s → reply_function q.function o ≡ q.function + function_bits s
  unfolding reply_function
  reply_bits o s e = rw e (omega arith)

  abbrev sends : Outcome → List ℕ → List ℕ
  sends o ys = sent_chars mark (said (saying o ys))

  -- by how it is sent
  sent-read : (o : Outcome) (ys : List ℕ) (s : Sending) → sending_of o ≡ s → could_send s q ys ≡ true → ReadsAs s (read_for q (sends o ys))
  unfolding could_send ReadsAs
  sent-read o ys Normal e k =
      normal_read q (sends o ys) ys one (reply_data mark (saying o ys)) (reply-function mark (saying o ys) ∙ (reply_bits o Normal e ∙ omega arith)) k
  sent-read o ys Nop e k = nop_read q (sends o ys) ys one (reply_data mark (saying o ys)) (reply-function mark (saying o ys) ∙ reply_bits o Nop e) k
  sent-read o ys Rst e k = rst_read q (sends o ys) ys one (reply_data mark (saying o ys)) (reply-function mark (saying o ys) ∙ reply_bits o Rst e) k
  sent-read o ys Unanswered e k = tt

  -- two that are read as it was sent are read alike
  alike : (s : Sending) (x y : Read) → (s ≡ Unanswered → ⊥) → ReadsAs s x → ReadsAs s y → x ≡ y
  unfolding ReadsAs
  alike Normal x y n e f = e ∙ sym f
  alike Nop x y n e f = e ∙ sym f
  alike Rst x y n e f = e ∙ sym f
  alike Unanswered x y n e f = absurd (n refl)

  said_read : (o : Outcome) (ys : List ℕ) → length ys ≤ 511 → could_send (sending_of o) q ys ≡ true → (sending_of o ≡ Unanswered → ⊥)
      → (m : Made) → m.answer ≡ Ended o → m.sent ≡ said (saying o ys) → ReadBack (read_to q (sent_chars mark m.sent)) m (sent_chars mark m.sent)
  unfolding read_to
  said_read o ys l k n m a t =
      let x = saying o ys in
      let r = alike (sending_of o) (read_for q (sends o ys)) (read_by o) n (sent-read o ys (sending_of o) refl k) (reads_as o) in
      let e : read_to q (sends o ys) ≡ read_by o = reply_over mark x l (read_for q (sends o ys)) ∙ r in
      subst (λ (z : Sent). ReadBack (read_to q (sent_chars mark z)) m (sent_chars mark z)) (sym t) (reply a t e (reply_data mark x))

  silent-read : (m : Made) → m.sent ≡ silent → ReadBack (read_to q (sent_chars mark m.sent)) m (sent_chars mark m.sent)
  silent-read m t = silence (ap (sent_chars mark) t ∙ (unfold sent_chars in refl))

  finished-read : (c : Config) (m : Stepped) → Answers q m.step.says → ReadBack (read_to q (sent_chars mark (finished i q m).sent)) (started_anew c q (finished i q m)) (sent_chars mark (finished i q m).sent)
  unfolding Answers finished
  finished-read c m k =
      let o = m.step.says.outcome in
      let ys = m.step.says.chars in
      by_sending (sending_of o) (λ e. silent-read _ (sent-nothing (sending_of o) (saying o ys) e)) (λ n. said_read o ys k.0 k.1 n _ refl (sent_something (sending_of o) (saying o ys) n))

-- ---- a unit that works

module _ (c : Config) (s : State) (q : Request) (ok : fits c s ≡ true) (formed : Formed c s) (stamps : (g : ℕ) → all_stamped (held_by s g) ≡ true) (sound : Sound q)
    (asks : asks_any q ≡ true) where
  abbrev i : Inner
  i = s.inner

  valid : valid_of c ≡ true
  unfolding fits
  valid = and_left (valid_of c) _ ok

  areas_fit_lem : areas_fit c i.areas ≡ true
  unfolding fits
  areas_fit_lem = and_left (areas_fit c i.areas) _ (and_right (core_fits c i.core) _ (and_right (port_fits s.port) _ (and_right (valid_of c) _ ok)))

  block-fits : length i.areas.block ≤ 512
  unfolding areas_fit valid_of
  block-fits =
      omega (arith, eqb-true (length i.areas.block) c.block (and_left (eqb (length i.areas.block) c.block) _ (and_left _ _ areas_fit_lem)), leb-true c.block 512 (and_left (leb c.block 512) _ (and_right (leb c.unit 0x7FE) _ valid)))

  unit-fits : c.unit ≤ 0x7FE
  unfolding valid_of
  unit-fits = leb-true c.unit 0x7FE (and_left (leb c.unit 0x7FE) _ valid)

  master-fits : master_fits (master_of q.address) ≡ true
  unfolding master_fits master_of
  master-fits = le-leb (q.address / 2048) 31 (omega (arith, sound.address))

  recorded : Recorded c i.history.files
  recorded = record { all = formed.records; good = stamps }

  Steps : Stepped → Type 0
  Steps m = Answers q m.step.says

  -- a request that no select breaks off, by its function
  kind-answer : (lag : ℕ) → breaks i.core.hold q ≡ false → Kind q → Steps (step_of c i lag q)
  unfolding Steps step_of other_of alone telling scanned controlled
  kind-answer lag b (inputs e u n) =
      rw (b, unlike q 0x04 (λ k. omega arith), unlike q 0x20 (λ k. omega arith), eq-eqb q.function 0x00 e) (inputs-answer c.inputs i.areas.words q u n e)
  kind-answer lag b (calculations e h) =
      rw (b, unlike q 0x04 (λ k. omega arith), unlike q 0x20 (λ k. omega arith), unlike q 0x00 (λ k. omega arith), eq-eqb q.function 0x03 e)
      (calculations-answer (equipped_now c i.areas.samples) i.areas.values q e h)
  kind-answer lag b (history e l n) = rw (b, eq-eqb q.function 0x04 e) (history-answer c valid q e i.history (fitting-history c s ok) recorded master-fits l n)
  kind-answer lag b (tables e l n) =
      rw (b, unlike q 0x04 (λ k. omega arith), unlike q 0x20 (λ k. omega arith), unlike q 0x00 (λ k. omega arith), unlike q 0x03 (λ k. omega arith), eq-eqb q.function 0x0A e)
      (tables_answer i.areas.words q e i.areas.plans i.areas.fixed l n)
  kind-answer lag b (control e h) =
      rw (
        b,
        unlike q 0x04 (λ k. omega arith),
        unlike q 0x20 (λ k. omega arith),
        unlike q 0x00 (λ k. omega arith),
        unlike q 0x03 (λ k. omega arith),
        unlike q 0x0A (λ k. omega arith),
        eq-eqb q.function 0x10 e,
      )
      (control_answer c.outputs i.core.hold q e h)
  kind-answer lag b (internal e h) = rw (b, unlike q 0x04 (λ k. omega arith), eq-eqb q.function 0x20 e) (internal_answer c i lag q e h)
  kind-answer lag b (return e h) =
      rw (
        b,
        unlike q 0x04 (λ k. omega arith),
        unlike q 0x20 (λ k. omega arith),
        unlike q 0x00 (λ k. omega arith),
        unlike q 0x03 (λ k. omega arith),
        unlike q 0x0A (λ k. omega arith),
        unlike q 0x10 (λ k. omega arith),
        eq-eqb q.function 0x28 e,
      )
      (return_answer i.core i.areas q e (fitting-clock c s ok) h sound.body formed.fixed block-fits)

  -- one that is broken off
  broken_answer : (lag : ℕ) → breaks i.core.hold q ≡ true → Steps (step_of c i lag q)
  unfolding Steps step_of alone broken_off scanned
  broken_answer lag b = rw b (reset q BrokenOff refl)

  step-answer : (lag : ℕ) → Answers q (step_of c i lag q).step.says
  unfolding Steps
  step-answer lag = by_bool (breaks i.core.hold q) (broken_answer lag) (λ b. kind-answer lag b (kind_of q asks))

  -- a unit is never the one of all
  own-one : unit_of q.address ≡ c.unit → to_one q ≡ true
  unfolding to_one
  own-one e = rw (ne_eqb (unit_of q.address) broadcast_unit (λ z. omega (arith, unit-fits))) refl

  Reads : Mark → Made → Type 0
  Reads mark m = ReadBack (read_to q (sent_chars mark m.sent)) m (sent_chars mark m.sent)

  framed-read : (lag : ℕ) (mark : Mark) → Reads mark (framed c i lag q)
  unfolding framed
  framed-read lag mark =
      by_cond (Reads mark) (eqb (unit_of q.address) c.unit)
      (λ e. own (eqb-true (unit_of q.address) c.unit e))
      (λ e. by_cond (Reads mark) (eqb (unit_of q.address) broadcast_unit) (λ e. (unfold Reads broadcast_made quiet in silence (unfold sent_chars in refl))) (λ e. (unfold Reads quiet in silence (unfold sent_chars in refl))))
    where
      own : unit_of q.address ≡ c.unit → Reads mark (served c i lag q)
      own e = unfold Reads served in finished-read i q mark (own-one e) (asks-function q asks) c (step_of c i lag q) (step-answer lag)

  -- a stretch with the frame of the request
  made_read : (mark : Mark) (t : Stretch) → t.chars ≡ frame_chars q → Reads mark (make_of c i (stretch t))
  made_read mark t is =
      let b = read_back q sound in
      let e : make_of c i (stretch t) ≡ framed c i t.lag q = (unfold make_of judged in rw (is, b.0, b.1)) in
      subst (Reads mark) (sym e) (framed-read t.lag mark)

  stretch-read : (t : Stretch) → t.chars ≡ frame_chars q → short (stretch t) ≡ false
      → ReadBack (read_to q (result_of c s (stretch t)).reply) (make_of c i (stretch t)) (result_of c s (stretch t)).reply
  unfolding Reads
  stretch-read t is b =
      let m = make_of c i (stretch t) in
      let e : (result_of c s (stretch t)).reply ≡ sent_chars s.port.mark m.sent =
      ap (λ (r : Result). r.reply) (works c s (stretch t) b ok).0 ∙ (unfold shows in refl) in
      subst (λ (r : List ℕ). ReadBack (read_to q r) m r) (sym e) (made_read s.port.mark t is)

-- ---- in a run

turned_silent : (c : Config) (s : State) (e : Event) (o : Outcome) → result_of c s e ≡ turned_away o → (result_of c s e).reply ≡ []
unfolding turned_away
turned_silent c s e o h = ap (λ (r : Result). r.reply) h

outstanding-reads : {a : ℕ} {m : Polling} {q : Request} (r : List ℕ) → Outstanding a m q → reads a m r ≡ read_to q r
unfolding reads read_when
outstanding-reads r (poll e) = rw e
outstanding-reads r (turn e) = rw e

module _ (c : Config) (es : List Event) (all : AllGiven es) (q : Request) (sound : Sound q) (asks : asks_any q ≡ true) (t : Stretch) (is : t.chars ≡ frame_chars q) where
  abbrev s : State
  s = after c es

  pub reply-read : ReadBack (read_to q (result_of c s (stretch t)).reply) (make_of c s.inner (stretch t)) (result_of c s (stretch t)).reply
  reply-read =
      by_bool (short (stretch t)) (λ b. silence (turned_silent c s (stretch t) BufferShort (short_away c s (stretch t) b).0))
      (λ b. by_bool (fits c s)
      (λ ok. stretch-read c s q ok (run_formed c es) (λ g. run_stamped c es g (valid_of_lem ok) all) sound asks t is b)
      (λ no. silence (turned_silent c s (stretch t) NotConfigured (unfit_away c s (stretch t) b no).0)))
    where
      valid_of_lem : fits c s ≡ true → valid_of c ≡ true
      valid_of_lem ok = unfold fits in and_left (valid_of c) _ ok

-- THE THEOREM: for every configuration, every run of a unit from fresh and every master, the unit's reply to what the master built is nothing, or is read
-- by the master as the unit's outcome says, with just the data that the unit said
pub exchange : (c : Config) (es : List Event) → AllGiven es → (a : ℕ) (m : Polling) (room : ℕ) (w : Wish) → a < 65536 → Characters w.body → InFiles m
    → buildable a room w ≡ true → (t : Stretch) → t.chars ≡ (builds a m room w).frame
    → ReadBack (reads a (builds a m room w).polling (result_of c (after c es) (stretch t)).reply) (make_of c (after c es).inner (stretch t))
    (result_of c (after c es) (stretch t)).reply
exchange c es all a m room w low body files k t is =
    let u = understood a m room w low body files in
    let b = u.some k in
    let r = (result_of c (after c es) (stretch t)).reply in
    subst (λ (x : Read). ReadBack x (make_of c (after c es).inner (stretch t)) r) (sym (outstanding-reads r b.outstanding))
    (reply-read c es all u.request b.sound b.asks t (is ∙ b.frame))
