-- The kept state that a unit will work on: every number in range, and no history reply that its file could not have given.
use Rattle.std.specs.Prelude.{ℕ, List, [], ◌∷◌, Bool, true, false, cond, not, ◌&&◌, ◌||◌, length, eqb, leb, ltb, None, Option, Some}
use Rattle.chars.specs.Gather.{up_from, every}
use Rattle.model.specs.Limits.{hold_time, silence_limit, file_room, most_means}
use Rattle.model.specs.Config.{Config, valid_of, has, has_file, window_at}
use Rattle.model.specs.State.{Areas, Files, History, Inner, State, held_in}
use Rattle.model.specs.Means.{samples_at}
use Rattle.model.specs.Clock.{clock_fits}
use Rattle.model.specs.Plans.{plans_fit}
use Rattle.model.specs.History.{most_of}
use Rattle.model.specs.declared.Master.{Master}
use Rattle.model.specs.declared.Hold.{Hold}
use Rattle.model.specs.declared.Hold.TheVariants.{Free, Held, TimedOut}
use Rattle.model.specs.declared.Write.{Write}
use Rattle.model.specs.declared.Core.{Core}
use Rattle.model.specs.declared.HistoryReply.{HistoryReply}
use Rattle.model.specs.declared.Port.{Port}

-- a master has five bits (Frames 6)
unfoldable pub master_fits : Master → Bool
master_fits m = leb m.0 31

-- a select is of an equipped output, and not timed out (Select 2, 4)
unfoldable pub hold_fits : Config → Hold → Bool
hold_fits c Free = true
hold_fits c (TimedOut m) = master_fits m
hold_fits c (Held s) = master_fits s.master && (has c.outputs s.output.0 && leb s.age hold_time)

unfoldable pub write_fits : Option Write → Bool
write_fits None = true
write_fits (Some w) = master_fits w.master && leb w.age hold_time

unfoldable pub core_fits : Config → Core → Bool
core_fits c k = clock_fits k.clock && (hold_fits c k.hold && write_fits k.write)

-- a reply of n records out of those held then, which were at most those held now (Outcomes 7)
unfoldable pub givable : ℕ → ℕ → ℕ → Bool → Bool
givable most held n more = cond more (eqb n most && ltb n held) (leb n most && leb n held)

unfoldable pub reply_fits : Config → Files → HistoryReply → Bool
reply_fits c fs t =
    master_fits t.master && (has_file c.files t.file.0
    && givable (most_of c.values t.file.0 t.dump) (length (held_in fs t.file.0)) t.quantity t.more)

unfoldable pub memory_fits : Config → Files → Option HistoryReply → Bool
memory_fits c fs None = true
memory_fits c fs (Some t) = reply_fits c fs t

-- a file holds up to 32 records, one that is not equipped none (History 4)
unfoldable pub file_fits : Config → Files → ℕ → Bool
file_fits c fs f = leb (length (held_in fs f)) (cond (has_file c.files f) file_room 0)

unfoldable pub history_fits : Config → History → Bool
history_fits c h = every (file_fits c h.files) (up_from 0 32) && memory_fits c h.files h.memory

-- a mean has at most as many samples as it is over, a place that is not used none (Request 4.2, 4.4)
unfoldable pub samples_fit : Config → List (List ℕ) → ℕ → Bool
samples_fit c ss p = leb (length (samples_at ss p)) (window_at c p)

-- the parameter block is lent as long as it was configured, and each plan is one (Outcomes 5; Request 12.3)
unfoldable pub areas_fit : Config → Areas → Bool
areas_fit c a = eqb (length a.block) c.block && every (samples_fit c a.samples) (up_from 0 most_means) && plans_fit a.plans

unfoldable pub port_fits : Port → Bool
port_fits p = leb p.silence silence_limit

-- a unit with a valid configuration and a kept state in range; any other answers 17 (Outcomes 7)
unfoldable pub fits : Config → State → Bool
fits c s =
    valid_of c && (port_fits s.port && (core_fits c s.inner.core && (areas_fit c s.inner.areas && history_fits c s.inner.history)))
