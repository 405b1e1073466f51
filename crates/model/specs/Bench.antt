-- The unit of the bench program (Bench 14): unit 1234 with inputs 30h and 40h, and nothing else; and a stretch as it comes there.
use Rattle.std.specs.Prelude.{ℕ, List, [], ◌∷◌, set, replicate}
use Rattle.model.specs.Limits.{longest_reply}
use Rattle.model.specs.Config.{Config}
use Rattle.model.specs.Event.{Stretch, Event, stretch}

unfoldable pub bench_config : Config
bench_config =
    record {
      unit = 1234;
      inputs = set (set (replicate 256 0) 0x30 1) 0x40 1;
      outputs = replicate 256 0;
      calculations = replicate 256 0;
      files = replicate 32 0;
      values = replicate 32 0;
      oldest = replicate 32 0;
      block = 0;
      means = replicate 16 0;
      sampled = replicate 16 0;
      windows = replicate 16 0;
    }

-- with a buffer that is just long enough, and no lag (Request 2.3)
abbrev pub with_room : List ℕ → Stretch
with_room s = record { room = longest_reply; chars = s; lag = 0 }

abbrev pub hears : List ℕ → Event
hears s = stretch (with_room s)
