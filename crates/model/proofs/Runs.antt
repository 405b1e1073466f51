-- A step and a run, for any property of states. Assumes nothing.
use mathlib.Core.Path.{◌≡◌}
use mathlib.Core.List.{List, [], ◌∷◌}
use mathlib.Core.Bool.{true}
use Rattle.model.specs.Config.{Config}
use Rattle.model.specs.State.{State}
use Rattle.model.specs.Fits.{fits}
use Rattle.model.specs.Event.{Event}
use Rattle.model.specs.Step.{make_of}
use Rattle.model.specs.Run.{short, moves, decided, next_of, after_from}
use Rattle.model.proofs.Conditions.{by_cond}

-- a step is what the unit makes of the event, or keeps the state
pub by_next : (P : State → Type 0) (c : Config) (s : State) (e : Event) → P s → (fits c s ≡ true → P (moves s.port e (make_of c s.inner e))) → P (next_of c s e)
unfolding next_of decided
by_next P c s e h m = by_cond P (short e) (λ a. h) (λ a. by_cond P (fits c s) m (λ b. h))

-- what each step hands on, with the events to come, stands after a run
pub by_run : (P : List Event → State → Type 0) (c : Config) → ((s : State) (e : Event) (es : List Event) → P (e ∷ es) s → P es (next_of c s e)) → (s : State) (es : List Event) → P es s → P [] (after_from c s es)
unfolding after_from
by_run P c f s [] h = h
by_run P c f s (e ∷ es) h = by_run P c f (next_of c s e) es (f s e es h)
