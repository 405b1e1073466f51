-- A run: events in turn from a state. Its trace has an entry for each event.
use Rattle.std.specs.Prelude.{None, Option, ℕ, List, [], ◌∷◌, Bool, false, cond, ltb}
use Rattle.model.specs.Limits.{longest_reply}
use Rattle.model.specs.Config.{Config}
use Rattle.model.specs.State.{State, fresh_of}
use Rattle.model.specs.Change.{Change, stays}
use Rattle.model.specs.Fits.{fits}
use Rattle.model.specs.Event.{Event, stretch, elapsed, local}
use Rattle.model.specs.Step.{Made, make_of}
use Rattle.model.specs.Port.{sent_chars, port_after}
use Rattle.model.specs.declared.Outcome.{Outcome}
use Rattle.model.specs.declared.Outcome.TheVariants.{NotConfigured, BufferShort}
use Rattle.model.specs.declared.Answer.{Answer}
use Rattle.model.specs.declared.Answer.TheVariants.{Ended}
use Rattle.model.specs.declared.Operation.{Operation}
use Rattle.model.specs.declared.Clock.{Clock}
use Rattle.model.specs.declared.Port.{Port}

-- a lent buffer that cannot hold the longest reply (row 18)
unfoldable pub short : Event → Bool
short (stretch s) = ltb s.room longest_reply
short (elapsed ms) = false
short (local l) = false

-- what an event shows: its answer, the output action, the characters sent
pub record Result : Type 0 where
  pub answer : Answer
  pub action : Option Operation
  pub reply : List ℕ

unfoldable pub turned_away : Outcome → Result
turned_away o = record { answer = Ended o; action = None; reply = [] }

unfoldable pub shows : Port → Made → Result
shows p m = record { answer = m.answer; action = m.action; reply = sent_chars p.mark m.sent }

unfoldable pub moves : Port → Event → Made → State
moves p e m = record { inner = m.inner; port = port_after p e m.answer }

-- 18, then 17, then what a working unit makes of the event (Outcomes 1, 7)
unfoldable pub decided : {A : Type 0} → Config → State → Event → (Outcome → A) → (Made → A) → A
decided c s e away works = cond (short e) (away BufferShort) (cond (fits c s) (works (make_of c s.inner e)) (away NotConfigured))

unfoldable pub result_of : Config → State → Event → Result
result_of c s e = decided c s e turned_away (shows s.port)

-- 17 and 18 change nothing (Outcomes 4)
unfoldable pub next_of : Config → State → Event → State
next_of c s e = decided c s e (λ o. s) (moves s.port e)

-- what the event changes in the files
unfoldable pub change_of : Config → State → Event → Change
change_of c s e = decided c s e (λ o. stays) (λ m. m.change)

-- an event as it came, when it came by the unit's clock, and what it showed
pub record Entry : Type 0 where
  pub clock : Clock
  pub event : Event
  pub result : Result

unfoldable pub entry_of : Config → State → Event → Entry
entry_of c s e = record { clock = s.inner.core.clock; event = e; result = result_of c s e }

unfoldable pub after_from : Config → State → List Event → State
after_from c s [] = s
after_from c s (e ∷ es) = after_from c (next_of c s e) es

unfoldable pub trace_from : Config → State → List Event → List Entry
trace_from c s [] = []
trace_from c s (e ∷ es) = entry_of c s e ∷ trace_from c (next_of c s e) es

-- from a fresh unit
abbrev pub after : Config → List Event → State
after c es = after_from c (fresh_of c) es

abbrev pub trace : Config → List Event → List Entry
trace c es = trace_from c (fresh_of c) es
