-- A property of a unit that holds part by part: which definitions change a part, and that nothing else does. Assumes nothing.
use Prim.Native.Nat.{ℕ}
use mathlib.Core.Path.{◌≡◌, refl}
use mathlib.Core.List.{List, []}
use mathlib.Core.Bool.{true, ◌&&◌}
use lib.ListN.{length, set}
use lib.Dec.{eqb, ltb}
use Rattle.chars.specs.Word.{word_at}
use Rattle.model.specs.Frame.{Request, unit_of, master_of, broadcast_unit, frame_in, heard_of, request_in}
use Rattle.model.specs.Outcome.{number_of, answer_number}
use Rattle.model.specs.Config.{Config, has_file, is_mean}
use Rattle.model.specs.State.{Areas, History, Inner}
use Rattle.model.specs.Change.{stays, adds, swaps, applied, dropped_after, added_by, changed_by}
use Rattle.model.specs.Scan.{Scan, tells, counts}
use Rattle.model.specs.Inputs.{Changed, reset_count_of}
use Rattle.model.specs.Contacts.{Contacted, groups_carried, areas_anew}
use Rattle.model.specs.Means.{value_settable, areas_sampled}
use Rattle.model.specs.Calculations.{set_value_of}
use Rattle.model.specs.Control.{control_of, breaks, held_after, is_of}
use Rattle.model.specs.Blocks.{execute_of, write_of, dropped, waits_after}
use Rattle.model.specs.Clock.{set_time_of, clock_after}
use Rattle.model.specs.History.{Told, acknowledges, file_of, untold, agrees, again_when, tell_of, history_of, record_chars, spared_in, stored_as}
use Rattle.model.specs.Event.{Stretch, Local, set_word, set_value, pulses, store, contact, sample, Event, stretch, elapsed, local}
use Rattle.model.specs.Step.{Step, with_words, with_values, scanned, changed, controlled, timed, written, executed, internal_of, return_of, other_of, Made, quiet, settled, Stepped, finished, alone, broken_off, telling, restarted, initial_step, internal_step, step_of, areas_left, started_anew, served, broadcast_of, broadcast_made, framed, judged, core_after, elapsed_made, local_made, word_made, value_made, contact_made, noted_in, store_made, sampled_made, sample_made, local_of, make_of}
use Rattle.model.specs.declared.Outcome.{Outcome}
use Rattle.model.specs.declared.Outcome.TheVariants.{OtherUnit, NotWhole, CheckWrong}
use Rattle.model.specs.declared.Stored.{Stored}
use Rattle.model.specs.declared.Stored.TheVariants.{Kept, Swapped, Full, NotEquipped, WrongValues}
use Rattle.model.specs.declared.Answer.{Answer}
use Rattle.model.specs.declared.Answer.TheVariants.{Ended}
use Rattle.model.specs.declared.SpecialCalculation.{SpecialCalculation}
use Rattle.model.specs.declared.Master.{Master}
use Rattle.model.specs.declared.Record.{Record}
use Rattle.model.specs.declared.Clock.{Clock}
use Rattle.model.specs.declared.Hold.{Hold}
use Rattle.model.specs.declared.Hold.TheVariants.{Free}
use Rattle.std.specs.Prelude.{None, Option, Some}
use Rattle.model.specs.declared.Write.{Write}
use Rattle.model.specs.declared.HistoryReply.{HistoryReply}
use Rattle.model.specs.declared.Core.{Core}
use Rattle.model.proofs.Conditions.{by_cond}
use Rattle.model.proofs.PairLaws.{by_heard, pair-address}
use Rattle.model.proofs.Pairs.{by_pair}
use Rattle.model.proofs.FileLaws.{told_after, new_told}
use Rattle.model.proofs.AreaLaws.{LeavesValues, Replans, stay, execute_replans, set_word-long, pulses-long, reset_count_long, ContactsLong, contact-long, anew-long, execute-long}

-- ---- a property, part by part

-- one of each part that is kept, and what it asks of a request and of an event
pub record Parts : Type 1 where
  pub clock : Clock → Type 0
  pub hold : Hold → Type 0
  pub write : Option Write → Type 0
  pub areas : Areas → Type 0
  pub history : History → Type 0
  pub request : Request → Type 0
  pub event : Event → Type 0

pub record CoreHas (p : Parts) (k : Core) : Type 0 where
  pub clock : p.clock k.clock
  pub hold : p.hold k.hold
  pub write : p.write k.write

pub record InnerHas (p : Parts) (i : Inner) : Type 0 where
  pub core : CoreHas p i.core
  pub areas : p.areas i.areas
  pub history : p.history i.history

record StepHas (p : Parts) (s : Step) : Type 0 where
  core : CoreHas p s.core
  areas : p.areas s.areas

record SteppedHas (p : Parts) (i : Inner) (m : Stepped) : Type 0 where
  step : StepHas p m.step
  history : p.history (changed_by m.change m.memory i.history)

-- it outlasts each definition that changes a part, and these are all
pub record Lasts (c : Config) (p : Parts) : Type 0 where
  pub heard : (s : Stretch) (q : Request) → p.event (stretch s) → q.address ≡ word_at s.chars 0 → p.request q
  pub set-time : (lag : ℕ) (k : Clock) (q : Request) → p.clock k → p.clock (set_time_of lag k q).clock
  pub clock-after : (k : Clock) (ms : ℕ) → p.clock k → p.clock (clock_after k ms)
  pub free : p.hold Free
  pub control : (h : Hold) (q : Request) → p.request q → p.hold h → p.hold (control_of c.outputs h q).hold
  pub held_after : (h : Hold) (ms : ℕ) → p.hold h → p.hold (held_after h ms)
  pub no_write : p.write None
  pub write : (w : Option Write) (q : Request) → p.request q → p.write w → p.write (write_of w q).write
  pub waits-after : (w : Option Write) (ms : ℕ) → p.write w → p.write (waits_after w ms)
  pub leaves : (a b : Areas) → LeavesValues a b → Replans c.inputs a b → p.areas a → p.areas b
  pub valued : (a : Areas) (n : SpecialCalculation) (v : ℕ) → p.event (local (set_value n v)) → value_settable c n.0 ≡ true → p.areas a → p.areas (with_values a (set a.values n.0 v))
  pub sampled : (a : Areas) (n : SpecialCalculation) → p.event (local (sample n)) → is_mean c n.0 ≡ true → p.areas a → p.areas (areas_sampled c a n.0)
  pub told : (h : History) (q : Request) → p.request q → has_file c.files (file_of q) ≡ true → p.history h
      → p.history (told_after h (new_told c h q))
  pub forgotten : (h : History) → p.history h → p.history (changed_by stays None h)
  pub kept : (h : History) (f : ℕ) (r : Record) (vs : List ℕ) → stored_as c h f vs ≡ Kept → p.history h
      → p.history (changed_by (adds f (record_chars r vs)) h.memory h)
  pub swapped : (h : History) (f : ℕ) (r : Record) (vs : List ℕ) → stored_as c h f vs ≡ Swapped → p.history h
      → p.history (changed_by (swaps f (spared_in h.memory f) (record_chars r vs)) h.memory h)

Makes : Parts → Made → Type 0
Makes p m = InnerHas p m.inner

module _ (c : Config) (p : Parts) (l : Lasts c p) where
  dropped-has : (w : Option Write) (m : Master) → p.write w → p.write (dropped w m)
  unfolding dropped
  dropped-has None m h = h
  dropped-has (Some w) m h = by_cond p.write (is_of w.master m) (λ e. l.no_write) (λ e. h)

  settled-has : (q : Request) (o : Outcome) (k : Core) → CoreHas p k → CoreHas p (settled q o k)
  unfolding settled
  settled-has q o k h =
      record {
        clock = h.clock;
        hold = h.hold;
        write = by_cond p.write (eqb (number_of o) 5) (λ e. h.write) (λ e. dropped-has k.write (master_of q.address) h.write);
      }

  finished-has : (i : Inner) (q : Request) (m : Stepped) → SteppedHas p i m → Makes p (finished i q m)
  unfolding Makes finished
  finished-has i q m h =
      record { core = settled-has q m.step.says.outcome m.step.core h.step.core; areas = h.step.areas; history = h.history }

  anew-has : (q : Request) (m : Made) → Makes p m → Makes p (started_anew c q m)
  unfolding Makes areas_left areas_anew
  anew-has q m h =
      let a = m.inner.areas in
      let gs = groups_carried c.inputs a.fixed q in
      record {
        core = h.core;
        areas = by_cond p.areas (eqb (answer_number m.answer) 0)
            (λ e. l.leaves a _ (record { words = anew-long _ gs a.words; values = refl; fixed = refl; block = refl; changed = anew-long _ gs a.changed; samples = refl }) (stay refl refl) h.areas)
            (λ e. h.areas);
        history = h.history;
      }

  quiet-has : (o : Answer) (i : Inner) → InnerHas p i → Makes p (quiet o i)
  unfolding Makes quiet
  quiet-has o i h = h

  module _ (k : Core) (a : Areas) (kh : CoreHas p k) (ah : p.areas a) where
    scanned-has : (r : Scan) → StepHas p (scanned k a r)
    unfolding scanned
    scanned-has r = record { core = kh; areas = ah }

    changed-has : (q : Request) → StepHas p (changed k a (reset_count_of c.inputs a.words q))
    unfolding changed
    changed-has q =
        let s : LeavesValues a (with_words a (reset_count_of c.inputs a.words q).area) =
        record { words = reset_count_long c.inputs a.words q; values = refl; fixed = refl; block = refl; changed = refl; samples = refl } in
        record { core = kh; areas = l.leaves a _ s (stay refl refl) ah }

    timed-has : (lag : ℕ) (q : Request) → StepHas p (timed k a (set_time_of lag k.clock q))
    unfolding timed
    timed-has lag q = record { core = record { clock = l.set-time lag k.clock q kh.clock; hold = kh.hold; write = kh.write }; areas = ah }

    controlled-has : (q : Request) → p.request q → StepHas p (controlled k a (control_of c.outputs k.hold q))
    unfolding controlled
    controlled-has q g = record { core = record { clock = kh.clock; hold = l.control k.hold q g kh.hold; write = kh.write }; areas = ah }

    written_has : (q : Request) → p.request q → StepHas p (written k a (write_of k.write q))
    unfolding written
    written_has q g = record { core = record { clock = kh.clock; hold = kh.hold; write = l.write k.write q g kh.write }; areas = ah }

    executed-has : (q : Request) → StepHas p (executed c.inputs k a (execute_of k.write a.fixed a.block q))
    unfolding executed
    executed-has q =
        let e = execute-long a.fixed a.block k.write q in
        record {
          core = record { clock = kh.clock; hold = kh.hold; write = kh.write };
          areas =
              l.leaves a _ (record { words = refl; values = refl; fixed = e.fixed; block = e.block; changed = refl; samples = refl }) (execute_replans c.inputs a k.write q) ah;
        }

    internal_has : (lag : ℕ) (q : Request) → p.request q → StepHas p (internal_of c k a lag q)
    unfolding internal_of
    internal_has lag q g =
        by_cond (StepHas p) (eqb q.command 0x11) (λ e. changed-has q)
        (λ e. by_cond (StepHas p) (eqb q.command 0x30) (λ e. written_has q g)
        (λ e. by_cond (StepHas p) (eqb q.command 0x31) (λ e. executed-has q)
        (λ e. by_cond (StepHas p) (eqb q.command 0x38) (λ e. timed-has lag q)
        (λ e. scanned-has _))))

    return_has : (q : Request) → StepHas p (return_of k a q)
    unfolding return_of
    return_has q =
        by_cond (StepHas p) (eqb q.command 0x30) (λ e. scanned-has _)
        (λ e. by_cond (StepHas p) (eqb q.command 0x31) (λ e. scanned-has _)
        (λ e. scanned-has _))

    other-has : (q : Request) → p.request q → StepHas p (other_of c k a q)
    unfolding other_of
    other-has q g =
        by_cond (StepHas p) (eqb q.function 0x00) (λ e. scanned-has _)
        (λ e. by_cond (StepHas p) (eqb q.function 0x03) (λ e. scanned-has _)
        (λ e. by_cond (StepHas p) (eqb q.function 0x0A) (λ e. scanned-has _)
        (λ e. by_cond (StepHas p) (eqb q.function 0x10) (λ e. controlled-has q g)
        (λ e. by_cond (StepHas p) (eqb q.function 0x28) (λ e. return_has q)
        (λ e. scanned-has _)))))

    broadcast_has : (lag : ℕ) (q : Request) → StepHas p (broadcast_of c k a lag q)
    unfolding broadcast_of
    broadcast_has lag q =
        by_cond (StepHas p) (eqb q.function 0x20 && eqb q.command 0x11) (λ e. changed-has q)
        (λ e. by_cond (StepHas p) (eqb q.function 0x20 && eqb q.command 0x38) (λ e. timed-has lag q)
        (λ e. scanned-has _))

  module _ (i : Inner) (h : InnerHas p i) where
    alone-has : (s : Step) → StepHas p s → SteppedHas p i (alone i s)
    unfolding alone changed_by applied dropped_after
    alone-has s r = record { step = r; history = h.history }

    broken_off-has : StepHas p (broken_off i.core i.areas)
    unfolding broken_off scanned
    broken_off-has = record { core = record { clock = h.core.clock; hold = l.free; write = h.core.write }; areas = h.areas }

    -- sending again, and a refusal, change nothing
    again-has : (w : Option HistoryReply) (q : Request) → p.history (record { memory = w; files = i.history.files; dropped = i.history.dropped })
        → p.history (told_after i.history (again_when w i.history.files q))
    unfolding again_when untold changed_by applied dropped_after
    again-has None q k = k
    again-has (Some t) q k = by_cond {A = Told} (λ x. p.history (told_after i.history x)) (agrees t q) (λ e. k) (λ e. k)

    history-has : (q : Request) → p.request q → p.history (told_after i.history (history_of c.files c.values i.history q))
    unfolding history_of tell_of untold changed_by applied dropped_after
    history-has q g =
        let P : Told → Type 0 = λ x. p.history (told_after i.history x) in
        by_cond P (ltb q.command 128)
        (λ e. by_cond P (counts 0 q)
        (λ e. by_cond P (has_file c.files (file_of q))
        (λ e. by_cond P (acknowledges q) (λ a. l.told i.history q g e h.history) (λ a. again-has i.history.memory q h.history))
        (λ e. h.history))
        (λ e. h.history))
        (λ e. h.history)

    telling-has : (q : Request) → p.request q → SteppedHas p i (telling i (history_of c.files c.values i.history q))
    unfolding telling scanned
    telling-has q g = record { step = record { core = h.core; areas = h.areas }; history = history-has q g }

    restarted-has : StepHas p (scanned (restarted i.core) i.areas (tells []))
    unfolding scanned restarted
    restarted-has = record { core = record { clock = h.core.clock; hold = l.free; write = l.no_write }; areas = h.areas }

    initial_has : (q : Request) → SteppedHas p i (initial_step i q)
    unfolding initial_step
    initial_has q =
        by_cond (SteppedHas p i) (counts 0 q)
        (λ e. record { step = restarted-has; history = l.forgotten i.history h.history })
        (λ e. alone-has _ (scanned-has i.core i.areas h.core h.areas _))

    internal_step-has : (lag : ℕ) (q : Request) → p.request q → SteppedHas p i (internal_step c i lag q)
    unfolding internal_step
    internal_step-has lag q g =
        by_cond (SteppedHas p i) (eqb q.command 0x00) (λ e. initial_has q)
        (λ e. alone-has _ (internal_has i.core i.areas h.core h.areas lag q g))

    step-has : (lag : ℕ) (q : Request) → p.request q → SteppedHas p i (step_of c i lag q)
    unfolding step_of
    step-has lag q g =
        by_cond (SteppedHas p i) (breaks i.core.hold q) (λ e. alone-has _ broken_off-has)
        (λ e. by_cond (SteppedHas p i) (eqb q.function 0x04) (λ e. telling-has q g)
        (λ e. by_cond (SteppedHas p i) (eqb q.function 0x20) (λ e. internal_step-has lag q g)
        (λ e. alone-has _ (other-has i.core i.areas h.core h.areas q g))))

    served-has : (lag : ℕ) (q : Request) → p.request q → Makes p (served c i lag q)
    unfolding served
    served-has lag q g = anew-has q _ (finished-has i q _ (step-has lag q g))

    broadcast_made-has : (s : Step) → StepHas p s → Makes p (broadcast_made i s)
    unfolding Makes broadcast_made quiet
    broadcast_made-has s r =
        record {
          core = record { clock = r.core.clock; hold = r.core.hold; write = r.core.write };
          areas = r.areas;
          history = h.history;
        }

    framed-has : (lag : ℕ) (q : Request) → p.request q → Makes p (framed c i lag q)
    unfolding framed
    framed-has lag q g =
        by_cond (Makes p) (eqb (unit_of q.address) c.unit) (λ e. served-has lag q g)
        (λ e. by_cond (Makes p) (eqb (unit_of q.address) broadcast_unit)
        (λ e. broadcast_made-has _ (broadcast_has i.core i.areas h.core h.areas lag q))
        (λ e. quiet-has (Ended OtherUnit) i h))

  made_inner : (m : Made) → Makes p m → InnerHas p m.inner
  unfolding Makes
  made_inner m h = h

  -- a stretch that was heard as no frame changes nothing, a pair what its frames change
  stretch-has : (i : Inner) → InnerHas p i → (lag : ℕ) (s : List ℕ) → ((q : Request) → q.address ≡ word_at s 0 → p.request q)
      → Makes p (judged c i lag s (heard_of s))
  unfolding judged frame_in request_in
  stretch-has i h lag s g =
      by_heard s (λ x. Makes p (judged c i lag s x)) (λ w. framed-has i h lag _ (g _ refl)) (quiet-has (Ended CheckWrong) i h)
      (λ d. let a = pair-address s _ _ d in
      let m = framed-has i h lag _ (g _ a.0) in
      by_pair c i lag s _ _ d (Makes p) (λ o t. framed-has _ (made_inner _ m) lag _ (g _ a.1)) (λ e. m))
      (quiet-has (Ended NotWhole) i h)

  module _ (i : Inner) (h : InnerHas p i) where
    elapsed-has : (ms : ℕ) → Makes p (elapsed_made i ms)
    unfolding Makes elapsed_made quiet core_after
    elapsed-has ms =
        record {
          core = record {
            clock = l.clock-after i.core.clock ms h.core.clock;
            hold = l.held_after i.core.hold ms h.core.hold;
            write = l.waits-after i.core.write ms h.core.write;
          };
          areas = h.areas;
          history = h.history;
        }

    local_has : (o : Outcome) (a : Areas) → LeavesValues i.areas a → Replans c.inputs i.areas a → Makes p (local_made i o a)
    unfolding Makes local_made quiet
    local_has o a s r = record { core = h.core; areas = l.leaves i.areas a s r h.areas; history = h.history }

    word-has : (r : Changed) → length r.area ≡ length i.areas.words → Makes p (word_made i r)
    unfolding word_made
    word-has r e = local_has _ _ (record { words = e; values = refl; fixed = refl; block = refl; changed = refl; samples = refl }) (stay refl refl)

    value-has : (n : SpecialCalculation) (v : ℕ) → p.event (local (set_value n v)) → Makes p (value_made i (set_value_of c i.areas.values n.0 v))
    unfolding Makes value_made local_made quiet set_value_of
    value-has n v g =
        by_cond {A = Changed} (λ r. Makes p (value_made i r)) (value_settable c n.0)
        (λ e. record { core = h.core; areas = l.valued i.areas n v g e h.areas; history = h.history })
        (λ e. h)

    sample-has : (n : SpecialCalculation) → p.event (local (sample n)) → Makes p (sample_made c i n.0)
    unfolding Makes sample_made sampled_made quiet
    sample-has n g =
        by_cond (Makes p) (is_mean c n.0) (λ e. record { core = h.core; areas = l.sampled i.areas n g e h.areas; history = h.history }) (λ e. h)

    contact-has : (r : Contacted) → ContactsLong i.areas.words i.areas.changed r → Makes p (contact_made i r)
    unfolding contact_made
    contact-has r e = local_has _ _ (record { words = e.words; values = refl; fixed = refl; block = refl; changed = e.changed; samples = refl }) (stay refl refl)

    store-has : (f : ℕ) (r : Record) (vs : List ℕ) (o : Stored) → stored_as c i.history f vs ≡ o → Makes p (store_made i f (record_chars r vs) o)
    unfolding Makes store_made noted_in added_by changed_by applied dropped_after
    store-has f r vs Kept e =
        record { core = record { clock = h.core.clock; hold = h.core.hold; write = h.core.write }; areas = h.areas; history = l.kept i.history f r vs e h.history }
    store-has f r vs Swapped e =
        record { core = record { clock = h.core.clock; hold = h.core.hold; write = h.core.write }; areas = h.areas; history = l.swapped i.history f r vs e h.history }
    store-has f r vs Full e =
        record { core = record { clock = h.core.clock; hold = h.core.hold; write = h.core.write }; areas = h.areas; history = h.history }
    store-has f r vs NotEquipped e = h
    store-has f r vs WrongValues e = h

    makes-local : (e : Local) → p.event (local e) → Makes p (local_of c i e)
    unfolding local_of
    makes-local (set_word n w) g = word-has _ (set_word-long c.inputs i.areas.words n.0 w)
    makes-local (set_value n v) g = value-has n v g
    makes-local (pulses n k) g = word-has _ (pulses-long c.inputs i.areas.words n.0 k)
    makes-local (contact n s) g = contact-has _ (contact-long c.inputs i.areas.words i.areas.changed n.0 s)
    makes-local (store f e vs) g = store-has f.0 (record { event = e; clock = i.core.clock }) vs _ refl
    makes-local (sample n) g = sample-has n g

    makes : (e : Event) → p.event e → Makes p (make_of c i e)
    unfolding make_of
    makes (stretch s) g = stretch-has i h s.lag s.chars (λ q. l.heard s q g)
    makes (elapsed ms) g = elapsed-has ms
    makes (local e) g = makes-local e g

    -- what a unit makes of an event has what the unit had
    pub make_has : (e : Event) → p.event e → InnerHas p (make_of c i e).inner
    unfolding Makes
    make_has e g = makes e g
