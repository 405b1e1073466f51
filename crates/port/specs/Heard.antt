-- The port after a stretch by its length, where the definition goes by its characters.
use Rattle.std.specs.Prelude.{ℕ, cond, eqb}
use Rattle.model.specs.Port.{mark_after}
use Rattle.model.specs.declared.Outcome.{Outcome}
use Rattle.model.specs.declared.Port.{Port}

-- an empty stretch changes nothing, any other ends the silence (Frames 15, 16)
unfoldable pub port_heard_by : Port → ℕ → Outcome → Port
port_heard_by p length o = cond (eqb length 0) p (record { silence = 0; mark = mark_after p.mark o })
