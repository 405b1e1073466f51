-- What the lag of a stretch can matter to: a good Set Time, and of what that leaves the clock alone (Request 2.3).
use Rattle.std.specs.Prelude.{ℕ, ◌≤◌, ◌≡◌, Bool, false, ◌&&◌, eqb}
use Rattle.model.specs.Frame.{Request, unit_of, broadcast_unit}
use Rattle.model.specs.Config.{Config}
use Rattle.model.specs.State.{Inner}
use Rattle.model.specs.Scan.{counts}
use Rattle.model.specs.Control.{breaks}
use Rattle.model.specs.Clock.{time_fits, clock_after}
use Rattle.model.specs.Event.{Stretch}
use Rattle.model.specs.Step.{with_clock}
use Rattle.model.specs.declared.Outcome.{Outcome}
use Rattle.model.specs.declared.Outcome.TheVariants.{NotValid, BroadcastRefused}
use Rattle.model.specs.declared.Hold.{Hold}

-- 20h/38h with the right count and a time that passes the date checks, so that only the lag is left to be judged
unfoldable pub good_set : Request → Bool
good_set q = (eqb q.function 0x20 && eqb q.command 0x38) && (counts 7 q && time_fits q.body)

-- the same stretch with another lag
abbrev pub lagging : Stretch → ℕ → Stretch
lagging t lag = record { room = t.room; chars = t.chars; lag = lag }

-- all that is kept, but that the clock is later by some time
abbrev pub clock_later : ℕ → Inner → Inner
clock_later ms i =
    record { core = with_clock i.core (clock_after i.core.clock ms); areas = i.areas; history = i.history }

-- a frame that gets as far as its function: for this unit, with no select broken off, or for all
pub data Reaches (c : Config) (h : Hold) (q : Request) : Type 0 where
  own : unit_of q.address ≡ c.unit → breaks h q ≡ false → Reaches c h q
  all : c.unit ≤ 0x7FE → unit_of q.address ≡ broadcast_unit → Reaches c h q

-- how its function refuses it as not valid
abbrev pub refused_as : {c : Config} {h : Hold} {q : Request} → Reaches c h q → Outcome
refused_as (own u b) = NotValid
refused_as (all n u) = BroadcastRefused
