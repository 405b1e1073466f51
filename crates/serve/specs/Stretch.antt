-- What a stretch promises.
use Rattle.std.specs.Prelude.{None, ◌≡◌, ℕ, ◌≤◌, List, true, false, cond, length, ltb}
use Rattle.chars.specs.Put.{put}
use Rattle.model.specs.Limits.{longest_reply}
use Rattle.model.specs.Config.{Config}
use Rattle.model.specs.Event.{Event, stretch}
use Rattle.model.specs.Run.{result_of, next_of, change_of}
use Rattle.model.specs.declared.Outcome.TheVariants.{NotConfigured, BufferShort}
use Rattle.model.specs.declared.Answer.TheVariants.{Ended}
use Rattle.layout.specs.Unit.{config_in}
use Rattle.serve.specs.declared.Made.{Made}
use Rattle.layout.specs.Kept.{Kept, state_of, Owned, kept_in, standing, Steady}
use Rattle.history.specs.Change.{taken_after}
use Rattle.serve.specs.Changes.{Shifted}

-- a stretch s as it comes with a lent buffer and a lag
abbrev pub coming : List ℕ → ℕ → List ℕ → Event
coming entry lag s = stretch (record { room = length entry; chars = s; lag = lag })

-- a stretch that found the unit as k left it as l: what it showed is the definition's result, the buffer holds the reply and is
-- else as it was, all that is kept is the next state, and every lent character and count of the files is as the change says
pub record Turns (c : Config) (lag : ℕ) (s : List ℕ) (k l : Kept) (entry exit : List ℕ) (r : Made) : Type 0 where
  pub answered : Ended r.outcome ≡ (result_of c (state_of c k) (coming entry lag s)).answer
  pub acted : r.action ≡ (result_of c (state_of c k) (coming entry lag s)).action
  pub counted : r.sent ≡ length (result_of c (state_of c k) (coming entry lag s)).reply
  pub inside : r.sent ≤ length entry
  pub small : r.sent ≤ longest_reply
  pub written : exit ≡ put entry 0 (result_of c (state_of c k) (coming entry lag s)).reply
  pub next : state_of c l ≡ next_of c (state_of c k) (coming entry lag s)
  pub changed : Shifted c (change_of c (state_of c k) (coming entry lag s)) k.area k.counts l.area l.counts
  pub taken : l.taken ≡ taken_after (change_of c (state_of c k) (coming entry lag s)) k.taken

-- the same of what a caller owns, which is such as a unit writes afterwards and keeps its configuration
pub record Served (lag : ℕ) (s : List ℕ) (x y : Owned) (entry exit : List ℕ) (r : Made) : Type 0 where
  pub turns : Turns (config_in x.unit) lag s (kept_in x) (kept_in y) entry exit r
  pub stand : standing y ≡ true
  pub steady : Steady x.unit y.unit

-- 18, then 17: nothing is changed, sent or operated
pub record Away (x y : Owned) (entry exit : List ℕ) (r : Made) : Type 0 where
  pub shown : r ≡ record { outcome = cond (ltb (length entry) longest_reply) BufferShort NotConfigured; action = None; sent = 0 }
  pub written : exit ≡ entry
  pub owned : y ≡ x

-- a call found x and left y: served where x is such as a unit writes, else turned away
pub record StretchPromise (lag : ℕ) (s : List ℕ) (x y : Owned) (entry exit : List ℕ) (r : Made) : Type 0 where
  pub read : standing x ≡ true → Served lag s x y entry exit r
  pub unread : standing x ≡ false → Away x y entry exit r
