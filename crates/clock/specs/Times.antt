-- How Set Time is answered, and Read Time for a clock of any numbers.
use Rattle.std.specs.Prelude.{cond}
use Rattle.model.specs.Frame.{Request}
use Rattle.model.specs.Scan.{Scan, refuses}
use Rattle.model.specs.Clock.{Timed, clock_fits, read_time_of}
use Rattle.model.specs.declared.Outcome.TheVariants.{NotConfigured}
use Rattle.model.specs.declared.Clock.{Clock}
use Rattle.clock.specs.declared.Set.{Set}

-- what Set Time hands back of a request that came to t
abbrev pub set_of : Timed → Set
set_of t = record { outcome = t.says.outcome; clock = t.clock }

-- Read Time: a clock out of range has numbers that no character holds, and a unit that keeps one is answered with 17
unfoldable pub time_read_of : Clock → Request → Scan
time_read_of k q = cond (clock_fits k) (read_time_of k q) (refuses NotConfigured)
