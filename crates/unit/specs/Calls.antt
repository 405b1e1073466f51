-- A run of calls of the entries: what each found, what it was called with, what it showed, and what it left.
use Rattle.std.specs.Prelude.{None, ℕ, List, [], ◌∷◌, take, ◌≢◌}
use Rattle.model.specs.Config.{Config}
use Rattle.model.specs.Event.{Stretch, Event, stretch}
use Rattle.model.specs.Run.{Result, Entry}
use Rattle.model.specs.declared.Answer.{Answer}
use Rattle.model.specs.declared.Answer.TheVariants.{Ended}
use Rattle.layout.specs.Kept.{Kept}
use Rattle.unit.specs.Events.{Heeds}
use Rattle.serve.specs.Stretch.{coming, Turns}
use Rattle.serve.specs.declared.Made.{Made}

-- no stretch: time or a local event
unfoldable pub NoStretch : Event → Type 0
NoStretch e = (s : Stretch) → e ≢ stretch s

-- what the entries of a trace show
unfoldable pub results : List Entry → List Result
results [] = []
results (x ∷ xs) = x.result ∷ results xs

-- what a stretch showed: the reply is the front of the buffer that was to be sent
abbrev pub made_shown : Made → List ℕ → Result
made_shown r exit = record { answer = Ended r.outcome; action = r.action; reply = take r.sent exit }

-- what any other event showed: its answer alone
abbrev pub answered_by : Answer → Result
answered_by a = record { answer = a; action = None; reply = [] }

-- calls in turn, each as its entry has it where the numbers are readable, on what the one before left
pub data Calls (c : Config) : Kept → List Event → List Result → Kept → Type 0 where
  none : {k : Kept} → Calls c k [] [] k
  heard : {k l m : Kept} {lag : ℕ} {s entry exit : List ℕ} {r : Made} {es : List Event} {xs : List Result}
      → Turns c lag s k l entry exit r → Calls c l es xs m → Calls c k (coming entry lag s ∷ es) (made_shown r exit ∷ xs) m
  heeded : {k l m : Kept} {e : Event} {a : Answer} {es : List Event} {xs : List Result}
      → NoStretch e → Heeds c e k l a → Calls c l es xs m → Calls c k (e ∷ es) (answered_by a ∷ xs) m
