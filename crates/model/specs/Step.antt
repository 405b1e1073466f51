-- One event: what a unit that works makes of it. The port is not seen here.
use Rattle.std.specs.Prelude.{None, Option, ℕ, ◌+◌, List, [], Bool, true, false, cond, ◌&&◌, take, drop, eqb}
use Rattle.model.specs.Limits.{write_frame}
use Rattle.model.specs.Frame.{Request, unit_of, master_of, broadcast_unit, heard_of, request_in}
use Rattle.model.specs.Outcome.{number_of, sending_of, reply_function, answer_number}
use Rattle.model.specs.Config.{Config, place_of, is_mean}
use Rattle.model.specs.Event.{Local, set_word, set_value, pulses, store, contact, sample, Event, stretch, elapsed, local}
use Rattle.model.specs.State.{Areas, Inner}
use Rattle.model.specs.Change.{Change, stays, takes, added_by, changed_by}
use Rattle.model.specs.Scan.{Scan, tells, refuses, counts}
use Rattle.model.specs.Inputs.{Changed, inputs_of, set_word_of, pulses_of, reset_count_of}
use Rattle.model.specs.Tables.{table_area}
use Rattle.model.specs.Plans.{plans_of, planned_of}
use Rattle.model.specs.Contacts.{Contacted, with_contacts, contact_of, groups_carried, areas_anew}
use Rattle.model.specs.Means.{equipped_now, taken_at, sampled_for, areas_sampled}
use Rattle.model.specs.Calculations.{calculations_of, set_value_of}
use Rattle.model.specs.Control.{Controlled, control_of, breaks, held_after}
use Rattle.model.specs.Blocks.{WriteResult, Executed, write_of, execute_of, read_of, dropped, waits_after}
use Rattle.model.specs.Clock.{Timed, set_time_of, read_time_of, clock_after}
use Rattle.model.specs.History.{Told, history_of, record_chars, spared_in, stored_as}
use Rattle.model.specs.declared.Outcome.{Outcome}
use Rattle.model.specs.declared.Outcome.TheVariants.{
  Done,
  NotWhole,
  CheckWrong,
  OtherUnit,
  BroadcastDone,
  Unknown,
  WrongCount,
  NotValid,
  BrokenOff,
  BroadcastRefused,
}
use Rattle.model.specs.declared.Sending.{Sending}
use Rattle.model.specs.declared.Sending.TheVariants.{Normal, Nop, Rst, Unanswered}
use Rattle.model.specs.declared.Stored.{Stored}
use Rattle.model.specs.declared.Stored.TheVariants.{Kept, Swapped, Full, NotEquipped, WrongValues}
use Rattle.model.specs.declared.Answer.{Answer}
use Rattle.model.specs.declared.Answer.TheVariants.{Ended, Storing, Sampling}
use Rattle.model.specs.declared.Operation.{Operation}
use Rattle.model.specs.declared.Heard.{Heard}
use Rattle.model.specs.declared.Heard.TheVariants.{Broken, Wrong, Whole, Pair}
use Rattle.model.specs.declared.Clock.{Clock}
use Rattle.model.specs.declared.Hold.{Hold}
use Rattle.model.specs.declared.Hold.TheVariants.{Free}
use Rattle.model.specs.declared.Write.{Write}
use Rattle.model.specs.declared.HistoryReply.{HistoryReply}
use Rattle.model.specs.declared.Core.{Core}

-- what a function makes of a request that reaches it
pub record Step : Type 0 where
  pub says : Scan
  pub action : Option Operation
  pub core : Core
  pub areas : Areas

-- ---- each kind of function by what it can change

abbrev pub with_clock : Core → Clock → Core
with_clock k t = record { clock = t; hold = k.hold; write = k.write; configure = k.configure; error = k.error; broadcast = k.broadcast }

abbrev pub with_hold : Core → Hold → Core
with_hold k h = record { clock = k.clock; hold = h; write = k.write; configure = k.configure; error = k.error; broadcast = k.broadcast }

abbrev pub with_write : Core → Option Write → Core
with_write k p = record { clock = k.clock; hold = k.hold; write = p; configure = k.configure; error = k.error; broadcast = k.broadcast }

abbrev pub with_configure : Core → Bool → Core
with_configure k b = record { clock = k.clock; hold = k.hold; write = k.write; configure = b; error = k.error; broadcast = k.broadcast }

abbrev pub with_error : Core → Bool → Core
with_error k b = record { clock = k.clock; hold = k.hold; write = k.write; configure = k.configure; error = b; broadcast = k.broadcast }

abbrev pub with_broadcast : Core → Bool → Core
with_broadcast k b = record { clock = k.clock; hold = k.hold; write = k.write; configure = k.configure; error = k.error; broadcast = b }

abbrev pub with_words : Areas → List ℕ → Areas
with_words a words = record { words = words; values = a.values; fixed = a.fixed; block = a.block; changed = a.changed; samples = a.samples; plans = a.plans }

abbrev pub with_values : Areas → List ℕ → Areas
with_values a values = record { words = a.words; values = values; fixed = a.fixed; block = a.block; changed = a.changed; samples = a.samples; plans = a.plans }

unfoldable pub scanned : Core → Areas → Scan → Step
scanned k a r = record { says = r; action = None; core = k; areas = a }

unfoldable pub changed : Core → Areas → Changed → Step
changed k a r = record { says = r.says; action = None; core = k; areas = with_words a r.area }

unfoldable pub controlled : Core → Areas → Controlled → Step
controlled k a r = record { says = r.says; action = r.action; core = with_hold k r.hold; areas = a }

unfoldable pub timed : Core → Areas → Timed → Step
timed k a r = record { says = r.says; action = None; core = with_clock k r.clock; areas = a }

unfoldable pub written : Core → Areas → WriteResult → Step
written k a r = record { says = r.says; action = None; core = with_write k r.write; areas = a }

-- an accepted EXECUTE clears bit 7 or bit 3; one into ordinal 03 makes every plan anew (Frames 10; Request 12.2)
unfoldable pub executed : List ℕ → Core → Areas → Executed → Step
executed table k a r =
    record {
      says = r.says;
      action = None;
      core = with_error (with_configure k (cond r.configures false k.configure)) (cond r.clears false k.error);
      areas = record {
        words = a.words;
        values = a.values;
        fixed = r.fixed;
        block = r.block;
        changed = a.changed;
        samples = a.samples;
        plans = cond r.configures (plans_of table (table_area r.fixed)) a.plans;
      };
    }

-- ---- the functions that see no history (Covers 1)

-- function 20h but for 20h/00; of the lag only Set Time makes anything (paper 6.3 to 6.5; Request 2.3)
unfoldable pub internal_of : Config → Core → Areas → ℕ → Request → Step
internal_of c k a lag q =
    cond (eqb q.command 0x11) (changed k a (reset_count_of c.inputs a.words q))
    (cond (eqb q.command 0x30) (written k a (write_of k.write q))
    (cond (eqb q.command 0x31) (executed c.inputs k a (execute_of k.write a.fixed a.block q))
    (cond (eqb q.command 0x38) (timed k a (set_time_of lag k.clock q))
    (scanned k a (refuses Unknown)))))

-- function 28h (paper 7)
unfoldable pub return_of : Core → Areas → Request → Step
return_of k a q =
    cond (eqb q.command 0x30) (scanned k a (read_of a.fixed a.block q))
    (cond (eqb q.command 0x31) (scanned k a (read_time_of k.clock q))
    (scanned k a (refuses Unknown)))

-- by function code; a function with bit 6 or 7 set is none of them (row 6; paper 1.1.3)
unfoldable pub other_of : Config → Core → Areas → Request → Step
other_of c k a q =
    cond (eqb q.function 0x00) (scanned k a (inputs_of c.inputs a.words q))
    (cond (eqb q.function 0x03) (scanned k a (calculations_of (equipped_now c a.samples) a.values q))
    (cond (eqb q.function 0x0A) (scanned k a (planned_of a.plans a.fixed a.words q))
    (cond (eqb q.function 0x10) (controlled k a (control_of c.outputs k.hold q))
    (cond (eqb q.function 0x28) (return_of k a q)
    (scanned k a (refuses Unknown))))))

-- ---- a frame for this unit

-- the status character as the frame found the unit (Frames 10; paper 1.2.4)
unfoldable pub status_of : Core → ℕ
status_of k = cond k.configure 0x80 0 + (cond k.error 0x08 0 + cond k.broadcast 0x04 0)

-- a reply but for its port status and check
pub record Said : Type 0 where
  pub address : ℕ
  pub function : ℕ
  pub status : ℕ
  pub chars : List ℕ

pub data Sent : Type 0 where
  silent : Sent
  said : Said → Sent

-- what is sent (the outcome table's last column)
unfoldable pub sent_as : Sending → Said → Sent
sent_as Normal r = said r
sent_as Nop r = said r
sent_as Rst r = said r
sent_as Unanswered r = silent

unfoldable pub answered : Sending → Bool
answered Normal = true
answered Nop = true
answered Rst = true
answered Unanswered = false

-- what the unit makes of an event: the answer, the output action, what is sent, all that is kept then, and what it changed in the files
pub record Made : Type 0 where
  pub answer : Answer
  pub action : Option Operation
  pub sent : Sent
  pub inner : Inner
  pub change : Change

-- nothing is sent, operated or changed in the files
unfoldable pub quiet : Answer → Inner → Made
quiet o i = record { answer = o; action = None; sent = silent; inner = i; change = stays }

-- what every frame for this unit does: a write of its master is dropped but by a WRITE taken; a reply clears bit 2 (Write 6; Frames 10)
unfoldable pub settled : Request → Outcome → Core → Core
settled q o k =
    with_broadcast (with_write k (cond (eqb (number_of o) 5) k.write (dropped k.write (master_of q.address))))
    (cond (answered (sending_of o)) false k.broadcast)

-- what a frame for this unit comes to, before it is settled and sent: its step, the reply remembered then, and what it changes in the files
pub record Stepped : Type 0 where
  pub step : Step
  pub memory : Option HistoryReply
  pub change : Change

-- a frame that found all that is kept as i (Frames 5, 9, 10)
unfoldable pub finished : Inner → Request → Stepped → Made
finished i q m =
    record {
      answer = Ended m.step.says.outcome;
      action = m.step.action;
      sent = sent_as (sending_of m.step.says.outcome)
          (record { address = q.address; function = reply_function q.function m.step.says.outcome; status = status_of i.core; chars = m.step.says.chars });
      inner = record { core = settled q m.step.says.outcome m.step.core; areas = m.step.areas; history = changed_by m.change m.memory i.history };
      change = m.change;
    }

-- a function that sees no history
unfoldable pub alone : Inner → Step → Stepped
alone i p = record { step = p; memory = i.history.memory; change = stays }

-- a frame of the select's own master that is no operate: the select is cancelled, with nothing else done (Select 5)
unfoldable pub broken_off : Core → Areas → Step
broken_off k a = scanned (with_hold k Free) a (refuses BrokenOff)

-- function 04 sees the history, and neither core nor areas
unfoldable pub telling : Inner → Told → Stepped
telling i t =
    record {
      step = scanned i.core i.areas t.says;
      memory = t.memory;
      change = t.change;
    }

-- the select, its mark and the write are forgotten, and bit 7 is set
unfoldable pub restarted : Core → Core
restarted k = with_configure (with_write (with_hold k Free) None) true

-- 20h/00: with the latest history reply (Write 19, 20; paper 6.2)
unfoldable pub initial_step : Inner → Request → Stepped
initial_step i q =
    cond (counts 0 q)
    (record { step = scanned (restarted i.core) i.areas (tells []); memory = None; change = stays })
    (alone i (scanned i.core i.areas (refuses WrongCount)))

-- function 20h (paper 6.1)
unfoldable pub internal_step : Config → Inner → ℕ → Request → Stepped
internal_step c i lag q = cond (eqb q.command 0x00) (initial_step i q) (alone i (internal_of c i.core i.areas lag q))

-- 12 comes before 6 and 7, and these before what each function judges (Outcomes 1)
unfoldable pub step_of : Config → Inner → ℕ → Request → Stepped
step_of c i lag q =
    cond (breaks i.core.hold q) (alone i (broken_off i.core i.areas))
    (cond (eqb q.function 0x04) (telling i (history_of c.files c.values i.history q))
    (cond (eqb q.function 0x20) (internal_step c i lag q)
    (alone i (other_of c i.core i.areas q))))

-- once a normal reply is made, the groups that it carried start anew; no other answer clears anything (Request 8.3, 8.4)
unfoldable pub areas_left : Config → Request → Answer → Areas → Areas
areas_left c q o a = cond (eqb (answer_number o) 0) (areas_anew (groups_carried c.inputs a.fixed q) a) a

abbrev pub started_anew : Config → Request → Made → Made
started_anew c q m =
    record {
      answer = m.answer;
      action = m.action;
      sent = m.sent;
      inner = record { core = m.inner.core; areas = areas_left c q m.answer m.inner.areas; history = m.inner.history };
      change = m.change;
    }

unfoldable pub served : Config → Inner → ℕ → Request → Made
served c i lag q = started_anew c q (finished i q (step_of c i lag q))

-- ---- a broadcast

-- 20h/11h and 20h/38h only, under the same checks (Outcomes 10)
unfoldable pub broadcast_of : Config → Core → Areas → ℕ → Request → Step
broadcast_of c k a lag q =
    cond (eqb q.function 0x20 && eqb q.command 0x11) (changed k a (reset_count_of c.inputs a.words q))
    (cond (eqb q.function 0x20 && eqb q.command 0x38) (timed k a (set_time_of lag k.clock q))
    (scanned k a (refuses Unknown)))

-- it is not answered, and sets bit 2; select, write and history reply stand (Outcomes 10, 11; Frames 10)
unfoldable pub broadcast_made : Inner → Step → Made
broadcast_made i p =
    quiet (Ended (cond (eqb (number_of p.says.outcome) 0) BroadcastDone BroadcastRefused))
    (record { core = with_broadcast p.core true; areas = p.areas; history = i.history })

-- ---- a stretch

-- for this unit, for all, or for another (Outcomes 1; row 3)
unfoldable pub framed : Config → Inner → ℕ → Request → Made
framed c i lag q =
    cond (eqb (unit_of q.address) c.unit) (served c i lag q)
    (cond (eqb (unit_of q.address) broadcast_unit) (broadcast_made i (broadcast_of c i.core i.areas lag q))
    (quiet (Ended OtherUnit) i))

-- an EXECUTE that came with its WRITE, of which m was made: it is judged where the WRITE was taken, and else m is the one answer (Request 5.2, 5.4)
unfoldable pub followed : Config → ℕ → Request → Made → Made
followed c lag x m = cond (eqb (answer_number m.answer) 5) (framed c m.inner lag x) m

-- damage changes nothing here; a pair is its WRITE, and its EXECUTE after it (rows 1, 2; Request 5.2, 5.3)
unfoldable pub judged : Config → Inner → ℕ → List ℕ → Heard → Made
judged c i lag s Broken = quiet (Ended NotWhole) i
judged c i lag s Wrong = quiet (Ended CheckWrong) i
judged c i lag s (Whole f) = framed c i lag (request_in f s)
judged c i lag s (Pair w x) = followed c lag (request_in x (drop write_frame s)) (framed c i lag (request_in w (take write_frame s)))

-- ---- time and the local events

-- time moves clock, select and write (Outcomes 9)
unfoldable pub core_after : Core → ℕ → Core
core_after k ms = with_write (with_hold (with_clock k (clock_after k.clock ms)) (held_after k.hold ms)) (waits_after k.write ms)

unfoldable pub elapsed_made : Inner → ℕ → Made
elapsed_made i ms = quiet (Ended Done) (record { core = core_after i.core ms; areas = i.areas; history = i.history })

unfoldable pub local_made : Inner → Outcome → Areas → Made
local_made i o a = quiet (Ended o) (record { core = i.core; areas = a; history = i.history })

unfoldable pub word_made : Inner → Changed → Made
word_made i r = local_made i r.says.outcome (with_words i.areas r.area)

unfoldable pub value_made : Inner → Changed → Made
value_made i r = local_made i r.says.outcome (with_values i.areas r.area)

unfoldable pub contact_made : Inner → Contacted → Made
contact_made i r = local_made i r.outcome (with_contacts i.areas r.words r.changed)

-- a file that was full sets bit 3, whether it drops a record or not (Frames 10; Request 7.6)
unfoldable pub noted_in : Stored → Core → Core
noted_in Kept k = k
noted_in Swapped k = with_error k true
noted_in Full k = with_error k true
noted_in NotEquipped k = k
noted_in WrongValues k = k

-- a record offered to file f (History 5)
unfoldable pub store_made : Inner → ℕ → List ℕ → Stored → Made
store_made i f r o =
    let ch = added_by o f (spared_in i.history.memory f) r in
    record {
      answer = Storing o;
      action = None;
      sent = silent;
      inner = record { core = noted_in o i.core; areas = i.areas; history = changed_by ch i.history.memory i.history };
      change = ch;
    }

-- a sample for calculation number n, which is a mean (Request 4.3)
unfoldable pub sampled_made : Config → Inner → ℕ → Made
sampled_made c i n =
    record {
      answer = Sampling (sampled_for c i.areas n);
      action = None;
      sent = silent;
      inner = record { core = i.core; areas = areas_sampled c i.areas n; history = i.history };
      change = takes (place_of c n) (taken_at c i.areas (place_of c n));
    }

-- any other number is none (Request 4.9)
unfoldable pub sample_made : Config → Inner → ℕ → Made
sample_made c i n = cond (is_mean c n) (sampled_made c i n) (quiet (Ended NotValid) i)

unfoldable pub local_of : Config → Inner → Local → Made
local_of c i (set_word n w) = word_made i (set_word_of c.inputs i.areas.words n.0 w)
local_of c i (set_value n v) = value_made i (set_value_of c i.areas.values n.0 v)
local_of c i (contact n s) = contact_made i (contact_of c.inputs i.areas.words i.areas.changed n.0 s)
local_of c i (pulses n p) = word_made i (pulses_of c.inputs i.areas.words n.0 p)
local_of c i (store f e vs) =
    store_made i f.0 (record_chars (record { event = e; clock = i.core.clock }) vs) (stored_as c i.history f.0 vs)
local_of c i (sample n) = sample_made c i n.0

-- what a working unit makes of an event
unfoldable pub make_of : Config → Inner → Event → Made
make_of c i (stretch s) = judged c i s.lag s.chars (heard_of s.chars)
make_of c i (elapsed ms) = elapsed_made i ms
make_of c i (local l) = local_of c i l
