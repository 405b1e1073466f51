-- What the inner steps of a stretch promise: what a function made of a frame, what a broadcast made, and what was made of a stretch,
-- each with all that is lent.
use Rattle.std.specs.Prelude.{None, ◌≡◌, ℕ, ◌≤◌, List, [], Bool, true, false, cond, not, ◌&&◌, length, eqb, Option}
use Rattle.chars.specs.Put.{put}
use Rattle.model.specs.Limits.{reply_head, most_data, longest_reply}
use Rattle.model.specs.Frame.{Request, heard_of, request_in}
use Rattle.model.specs.Outcome.{number_of, sending_of, answer_number}
use Rattle.model.specs.Config.{Config, within, valid_of}
use Rattle.model.specs.Fits.{history_fits}
use Rattle.model.specs.State.{Areas, Files}
use Rattle.model.specs.Change.{applied}
use Rattle.model.specs.Scan.{refuses}
use Rattle.model.specs.Inputs.{reset_count_of}
use Rattle.model.specs.Clock.{clock_fits, set_time_of}
use Rattle.model.specs.Step.{Step as StepOf, scanned, changed, timed, Stepped, alone, return_of, internal_step, step_of, Made, answered, broadcast_of, broadcast_made, served, framed, judged}
use Rattle.model.specs.Port.{sent_chars, port_heard}
use Rattle.model.specs.declared.Outcome.{Outcome}
use Rattle.model.specs.declared.Outcome.TheVariants.{WriteTaken, Unknown}
use Rattle.model.specs.declared.Answer.TheVariants.{Ended}
use Rattle.model.specs.declared.Core.{Core}
use Rattle.model.specs.declared.Frame.{Frame}
use Rattle.model.specs.declared.Mark.{Mark}
use Rattle.model.specs.declared.HistoryReply.{HistoryReply}
use Rattle.model.specs.declared.Port.{Port}
use Rattle.layout.specs.Numbers.{core_in, memory_in, port_in, readable, Written}
use Rattle.layout.specs.Unit.{unit_in, config_in, numbers_in, NumbersOnly}
use Rattle.layout.specs.Records.{files_in, room_of}
use Rattle.port.specs.Heard.{port_heard_by}
use Rattle.layout.specs.Kept.{areas_in, samples_held, files_held, history_in, inner_by, inner_in, Owned, owned_of, Steady}
use Rattle.serve.specs.Changes.{Shifted}
use Rattle.serve.specs.declared.step.Step.{Step}
use Rattle.serve.specs.declared.Made.{Made as MadeOf}

-- ---- a unit's memory

-- readable numbers mean this core, memory and port afterwards, and nothing else is written
abbrev pub NumbersPromise : List ℕ → List ℕ → Core → Option HistoryReply → Port → Type 0
NumbersPromise u v core memory port = (readable (numbers_in u) ≡ true → Written core memory port (numbers_in v)) × NumbersOnly u v

-- a steady memory that tells of no more drops and samples, as every stretch leaves it (Request 4.4, 7.7)
pub record Undropped (u v : List ℕ) : Type 0 where
  pub steady : Steady u v
  pub dropped : (unit_in v).dropped ≡ (unit_in u).dropped
  pub taken : (unit_in v).taken ≡ (unit_in u).taken

-- and that keeps its counts of records
pub record Unshifted (u v : List ℕ) : Type 0 where
  pub steady : Undropped u v
  pub counts : (unit_in v).counts ≡ (unit_in u).counts

-- a configuration that is valid, and a history in range in the room that is asked for
pub record Ready (u area : List ℕ) : Type 0 where
  pub valid : valid_of (config_in u) ≡ true
  pub fits : history_fits (config_in u) (history_in u area) ≡ true
  pub room : room_of (config_in u) ≤ length area

-- the same with numbers that mean something, and a clock in range
pub record Working (u area : List ℕ) : Type 0 where
  pub ready : Ready u area
  pub numbers : readable (numbers_in u) ≡ true
  pub clock : clock_fits (core_in (numbers_in u)).clock ≡ true

-- a refused control request leaves the select, but for 11 and 12 (Select 4, 5)
abbrev pub leaves : Outcome → Bool
leaves o = within 6 15 (number_of o) && not (eqb (number_of o) 11) && not (eqb (number_of o) 12)

-- ---- what a function made of a frame for this unit

-- what is sent fits a reply, and what is not sent has no data
pub record Tame (o : Outcome) (ys : List ℕ) : Type 0 where
  pub quiet : answered (sending_of o) ≡ false → ys ≡ []
  pub short : length ys ≤ most_data

-- its data stand behind the room for the reply's head, and the numbers are ls, with the port as it was
pub record StepPromise (m : Stepped) (a : Areas) (p : Port) (ls entry exit : List ℕ) (r : Step) : Type 0 where
  pub ended : r.outcome ≡ m.step.says.outcome
  pub acted : r.action ≡ m.step.action
  pub counted : r.count ≡ length m.step.says.chars
  pub written : exit ≡ put entry reply_head m.step.says.chars
  pub kept : Written m.step.core m.memory p ls
  pub areas : a ≡ m.step.areas
  pub tame : Tame m.step.says.outcome m.step.says.chars

-- the same with the files, and with their lent characters and counts
pub record StepInPromise (c : Config) (m : Stepped) (a : Areas) (fs fs' : Files) (p : Port) (ls area counts area' counts' entry exit : List ℕ) (r : Step) : Type 0 where
  pub acts : StepPromise m a p ls entry exit r
  pub files : fs' ≡ applied m.change fs
  pub changed : Shifted c m.change area counts area' counts'

-- the two commands of function 20h that a broadcast knows too
abbrev pub common_of : Config → Core → Areas → ℕ → Request → StepOf
common_of c k a lag q =
    cond (eqb q.command 0x11) (changed k a (reset_count_of c.inputs a.words q))
    (cond (eqb q.command 0x38) (timed k a (set_time_of lag k.clock q))
    (scanned k a (refuses Unknown)))

-- whatever parameter block, samples and records there are
abbrev pub CommonPromise : ℕ → Request → List ℕ → List ℕ → List ℕ → List ℕ → Step → Type 0
CommonPromise lag q u v entry exit r =
    ((block : List ℕ) (ss : List (List ℕ)) (fs : Files) → readable (numbers_in u) ≡ true
    → StepPromise (alone (inner_by u block ss fs) (common_of (config_in u) (core_in (numbers_in u)) (areas_in u block ss) lag q)) (areas_in v block ss) (port_in (numbers_in u)) (numbers_in v) entry exit r)
    × Unshifted u v

-- function 20h, whatever samples and records there are
abbrev pub InternalPromise : ℕ → Request → List ℕ → List ℕ → List ℕ → List ℕ → List ℕ → List ℕ → Step → Type 0
InternalPromise lag q u block v block' entry exit r =
    ((ss : List (List ℕ)) (fs : Files) → readable (numbers_in u) ≡ true
    → StepPromise (internal_step (config_in u) (inner_by u block ss fs) lag q) (areas_in v block' ss) (port_in (numbers_in u)) (numbers_in v) entry exit r)
    × Unshifted u v

-- function 28h, which changes only the buffer
abbrev pub ReturnedPromise : Request → List ℕ → List ℕ → List ℕ → List ℕ → Step → Type 0
ReturnedPromise q u block entry exit r =
    (ss : List (List ℕ)) (fs : Files) → readable (numbers_in u) ≡ true
    → StepPromise (alone (inner_by u block ss fs) (return_of (core_in (numbers_in u)) (areas_in u block ss) q)) (areas_in u block ss) (port_in (numbers_in u)) (numbers_in u) entry exit r

-- any function, of what is owned before and after
abbrev pub ActPromise : ℕ → Request → Owned → Owned → List ℕ → List ℕ → Step → Type 0
ActPromise lag q x y entry exit r =
    (Ready x.unit x.area → readable (numbers_in x.unit) ≡ true
    → StepInPromise (config_in x.unit) (step_of (config_in x.unit) (inner_in x.unit x.block x.area) lag q)
    (areas_in y.unit y.block (samples_held x.unit x.area)) (files_held x.unit x.area) (files_in (config_in x.unit) y.area (unit_in y.unit).counts)
    (port_in (numbers_in x.unit)) (numbers_in y.unit) x.area (unit_in x.unit).counts y.area (unit_in y.unit).counts entry exit r)
    × Undropped x.unit y.unit

-- ---- what was made of a stretch, with its reply sent under a mark

pub record MadePromise (m : Made) (mark : Mark) (a : Areas) (fs : Files) (p : Port) (ls entry exit : List ℕ) (r : MadeOf) : Type 0 where
  pub answered : Ended r.outcome ≡ m.answer
  pub acted : r.action ≡ m.action
  pub counted : r.sent ≡ length (sent_chars mark m.sent)
  pub inside : r.sent ≤ length entry
  pub small : r.sent ≤ longest_reply
  pub written : exit ≡ put entry 0 (sent_chars mark m.sent)
  pub kept : Written m.inner.core m.inner.history.memory p ls
  pub areas : a ≡ m.inner.areas
  pub files : fs ≡ m.inner.history.files

-- the same with the lent characters and counts of the files
pub record MadeInPromise (c : Config) (m : Made) (mark : Mark) (a : Areas) (fs : Files) (p : Port) (ls area counts area' counts' entry exit : List ℕ) (r : MadeOf) : Type 0 where
  pub makes : MadePromise m mark a fs p ls entry exit r
  pub changed : Shifted c m.change area counts area' counts'

-- the same of what is owned before and after, where the unit is in range, with the port as it is left
abbrev pub OwnedPromise : Made → Port → Owned → Owned → List ℕ → List ℕ → MadeOf → Type 0
OwnedPromise m p x y entry exit r =
    (Ready x.unit x.area → readable (numbers_in x.unit) ≡ true
    → MadeInPromise (config_in x.unit) m (port_in (numbers_in x.unit)).mark (areas_in y.unit y.block (samples_held x.unit x.area))
    (files_in (config_in x.unit) y.area (unit_in y.unit).counts) p (numbers_in y.unit)
    x.area (unit_in x.unit).counts y.area (unit_in y.unit).counts entry exit r)
    × Undropped x.unit y.unit

-- a frame for this unit, in a stretch of n characters
abbrev pub ServedPromise : ℕ → Request → ℕ → Owned → Owned → List ℕ → List ℕ → MadeOf → Type 0
ServedPromise lag q n x y entry exit r =
    OwnedPromise (served (config_in x.unit) (inner_in x.unit x.block x.area) lag q)
    (port_heard_by (port_in (numbers_in x.unit)) n r.outcome) x y entry exit r

-- a frame with the head f that a working unit hears as s, a stretch or a part of one
abbrev pub FramedPromise : ℕ → Frame → List ℕ → Owned → Owned → List ℕ → List ℕ → MadeOf → Type 0
FramedPromise lag f s x y entry exit r =
    OwnedPromise (framed (config_in x.unit) (inner_in x.unit x.block x.area) lag (request_in f s))
    (port_heard (port_in (numbers_in x.unit)) s r.outcome) x y entry exit r

-- the WRITE with the head f, heard as s, ahead of the EXECUTE that came with it: taken, it leaves what that frame leaves, for any reply's buffer;
-- else nothing is written, and 5 is not what becomes of it (Request 5.2, 5.4)
pub record AheadPromise (f : Frame) (s u v : List ℕ) (r : Bool) : Type 0 where
  pub taken : r ≡ true → (lag : ℕ) (block area entry : List ℕ) → longest_reply ≤ length entry
      → FramedPromise lag f s (owned_of u block area) (owned_of v block area) entry entry (record { outcome = WriteTaken; action = None; sent = 0 })
  pub same : r ≡ false → v ≡ u
  pub refused : r ≡ false → (lag : ℕ) (block area : List ℕ) → eqb (answer_number (framed (config_in u) (inner_in u block area) lag (request_in f s)).answer) 5 ≡ false

-- any stretch that a working unit hears
abbrev pub JudgedPromise : ℕ → List ℕ → Owned → Owned → List ℕ → List ℕ → MadeOf → Type 0
JudgedPromise lag s x y entry exit r =
    OwnedPromise (judged (config_in x.unit) (inner_in x.unit x.block x.area) lag s (heard_of s))
    (port_heard (port_in (numbers_in x.unit)) s r.outcome) x y entry exit r

-- ---- a broadcast

-- what it stirs: it has no data, and the memory stays
pub record StirPromise (x : StepOf) (a : Areas) (w : Option HistoryReply) (p : Port) (ls : List ℕ) (o : Outcome) : Type 0 where
  pub ended : o ≡ x.says.outcome
  pub kept : Written x.core w p ls
  pub areas : a ≡ x.areas

-- its function, whatever parameter block there is
abbrev pub BroadcastStepPromise : ℕ → Request → List ℕ → List ℕ → Step → Type 0
BroadcastStepPromise lag q u v r =
    ((block : List ℕ) (ss : List (List ℕ)) → readable (numbers_in u) ≡ true
    → StirPromise (broadcast_of (config_in u) (core_in (numbers_in u)) (areas_in u block ss) lag q) (areas_in v block ss) (memory_in (numbers_in u)) (port_in (numbers_in u)) (numbers_in v) r.outcome)
    × Unshifted u v

-- all of it, whatever else there is
abbrev pub BroadcastPromise : ℕ → Request → List ℕ → List ℕ → MadeOf → Type 0
BroadcastPromise lag q u v r =
    ((block : List ℕ) (ss : List (List ℕ)) (fs : Files) (mark : Mark) (entry : List ℕ) → readable (numbers_in u) ≡ true
    → MadePromise (broadcast_made (inner_by u block ss fs) (broadcast_of (config_in u) (core_in (numbers_in u)) (areas_in u block ss) lag q)) mark
    (areas_in v block ss) fs (port_in (numbers_in u)) (numbers_in v) entry entry r)
    × Unshifted u v
