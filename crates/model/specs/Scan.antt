-- What a request comes to, whatever it changes: an outcome, and the characters of its reply's data; and how a function answers with it.
use Rattle.std.specs.Prelude.{◌≡◌, ℕ, List, [], ◌∷◌, Bool, true, false, cond, length, eqb, ltb}
use Rattle.chars.specs.Put.{put}
use Rattle.model.specs.Limits.{reply_head, longest_reply}
use Rattle.model.specs.Frame.{Request}
use Rattle.model.specs.declared.Outcome.{Outcome}
use Rattle.model.specs.declared.Outcome.TheVariants.{Done, WrongCount, BufferShort}
use Rattle.model.specs.declared.Filled.{Filled}

pub record Scan : Type 0 where
  pub outcome : Outcome
  pub chars : List ℕ

abbrev pub tells : List ℕ → Scan
tells ys = record { outcome = Done; chars = ys }

-- every refusal, with the data that it sends back
abbrev pub refuses_with : List ℕ → Outcome → Scan
refuses_with ys o = record { outcome = o; chars = ys }

-- none, but where a function says so (Outcomes 2)
abbrev pub refuses : Outcome → Scan
refuses o = refuses_with [] o

-- a request whose data count is right
unfoldable pub counts : ℕ → Request → Bool
counts n q = eqb (length q.body) n

-- a function that asks for no data (row 7)
unfoldable pub with_no_data : Request → Scan → Scan
with_no_data q r = cond (counts 0 q) r (refuses WrongCount)

-- a lent buffer that cannot hold the longest reply, whatever was asked (row 18)
unfoldable pub in_room : ℕ → Scan → Scan
in_room room r = cond (ltb room longest_reply) (refuses BufferShort) r

-- a reply buffer after a request that came to m: its data stand behind the room for the head, and nothing else was written
pub record Fills (entry exit : List ℕ) (m : Scan) (r : Filled) : Type 0 where
  pub ended : r.outcome ≡ m.outcome
  pub counted : r.count ≡ length m.chars
  pub written : exit ≡ put entry reply_head m.chars
