-- How a control request is answered: what the function hands back, and the reply buffer after it.
use Rattle.std.specs.Prelude.{◌≡◌, ℕ, List, length}
use Rattle.chars.specs.Put.{put}
use Rattle.model.specs.Limits.{reply_head}
use Rattle.model.specs.Control.{Controlled}
use Rattle.control.specs.declared.Ran.{Ran}

-- what is handed back of a request that came to m
abbrev pub ran_of : Controlled → Ran
ran_of m = record { outcome = m.says.outcome; action = m.action; hold = m.hold; count = length m.says.chars }

-- a reply buffer after a control request that came to m: its data stand behind the room for the head, and nothing else was written
pub record ControlPromise (entry exit : List ℕ) (m : Controlled) (r : Ran) : Type 0 where
  pub ended : r.outcome ≡ m.says.outcome
  pub acted : r.action ≡ m.action
  pub held : r.hold ≡ m.hold
  pub counted : r.count ≡ length m.says.chars
  pub written : exit ≡ put entry reply_head m.says.chars
