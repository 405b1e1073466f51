-- What a refusal may change, by its outcome alone and for every function alike (Outcomes 3, 4).
use Rattle.std.specs.Prelude.{None, ◌≡◌, ℕ, ◌≤◌, List, [], Bool, true, false, cond, ◌||◌, eqb, leb, Option}
use Rattle.model.specs.Frame.{Request, master_of, frame_in, request_in}
use Rattle.model.specs.Outcome.{number_of, carried_out, stored_number, answer_number}
use Rattle.model.specs.Config.{Config, within}
use Rattle.model.specs.State.{Inner, State}
use Rattle.model.specs.Blocks.{dropped}
use Rattle.model.specs.Event.{Event, stretch, elapsed, local}
use Rattle.model.specs.Step.{with_error, Sent, silent, said, Made}
use Rattle.model.specs.Port.{port_heard, port_after}
use Rattle.model.specs.Run.{result_of, next_of}
use Rattle.model.specs.declared.Outcome.{Outcome}
use Rattle.model.specs.declared.Answer.{Answer}
use Rattle.model.specs.declared.Answer.TheVariants.{Ended, Storing, Sampling}
use Rattle.model.specs.declared.Hold.{Hold}
use Rattle.model.specs.declared.Hold.TheVariants.{Free}
use Rattle.model.specs.declared.Write.{Write}
use Rattle.model.specs.declared.Core.{Core}
use Rattle.model.specs.declared.Port.{Port}

-- 6 to 15: a frame for this unit was refused, and is answered
unfoldable pub declined : Outcome → Bool
declined o = within 6 15 (number_of o)

-- 12 cancels the select, 11 clears the timed-out mark (Select 4, 5)
unfoldable pub refused_hold : Outcome → Hold → Hold
refused_hold o h = cond (eqb (number_of o) 11 || eqb (number_of o) 12) Free h

-- a frame of the write's master that reaches this unit drops it (Write 6)
unfoldable pub refused_write : Request → Outcome → Option Write → Option Write
refused_write q o p = cond (declined o) (dropped p (master_of q.address)) p

-- a broadcast frame sets bit 2, a reply clears it (Frames 10)
unfoldable pub refused_broadcast : Outcome → Bool → Bool
refused_broadcast o b = cond (declined o) false (cond (eqb (number_of o) 16) true b)

unfoldable pub refused_core : Request → Outcome → Core → Core
refused_core q o k =
    record {
      clock = k.clock;
      hold = refused_hold o k.hold;
      write = refused_write q o k.write;
      configure = k.configure;
      error = k.error;
      broadcast = refused_broadcast o k.broadcast;
    }

-- words, values, blocks, records and the latest history reply are as they were
unfoldable pub refused_inner : Request → Outcome → Inner → Inner
refused_inner q o i = record { core = refused_core q o i.core; areas = i.areas; history = i.history }

-- all that is kept, after a stretch t that was refused: the port too goes by the outcome; 17 and 18 change nothing
unfoldable pub refused_state : List ℕ → Outcome → State → State
refused_state t o s =
    cond (leb (number_of o) 16)
    (record { inner = refused_inner (request_in (frame_in t) t) o s.inner; port = port_heard s.port t o })
    s

unfoldable pub replies : Sent → Bool
replies silent = false
replies (said r) = true

-- what a unit that works made of a stretch with the request q, where it refused it by o
pub record Refused (q : Request) (o : Outcome) (i : Inner) (m : Made) : Type 0 where
  pub inner : m.inner ≡ refused_inner q o i
  pub action : m.action ≡ None
  pub sent : replies m.sent ≡ declined o
  pub row : number_of o ≤ 16

-- ---- the events that are no stretch

unfoldable pub arrives : Event → Bool
arrives (stretch t) = true
arrives (elapsed ms) = false
arrives (local l) = false

-- storing has numbers of its own (History 5)
unfoldable pub succeeded : Answer → Bool
succeeded (Ended o) = carried_out o
succeeded (Storing r) = eqb (stored_number r) 0
succeeded (Sampling r) = true

unfoldable pub was_full : Answer → Bool
was_full (Ended o) = false
was_full (Storing r) = eqb (stored_number r) 1
was_full (Sampling r) = false

-- a full file sets bit 3, and else nothing changes (Scans 4; History 5; Frames 10)
unfoldable pub refused_local : Answer → Inner → Inner
refused_local r i = record { core = with_error i.core (was_full r || i.core.error); areas = i.areas; history = i.history }

-- what a unit that works made of an event that is no stretch, where it refused it
pub record RefusedLocally (i : Inner) (e : Event) (m : Made) : Type 0 where
  pub inner : m.inner ≡ refused_local m.answer i
  pub action : m.action ≡ None
  pub sent : m.sent ≡ silent
  pub port : (p : Port) → port_after p e m.answer ≡ p
  pub row : answer_number m.answer ≤ 16

-- such an event in the whole: the port stays, nothing is sent or operated
pub record LocallyRefused (c : Config) (s : State) (e : Event) : Type 0 where
  pub state : next_of c s e ≡ record { inner = refused_local (result_of c s e).answer s.inner; port = s.port }
  pub action : (result_of c s e).action ≡ None
  pub reply : (result_of c s e).reply ≡ []
