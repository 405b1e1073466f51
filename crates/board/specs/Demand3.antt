-- Demand 3 of runs of calls from C: each from a fresh unit, with block and room as its configuration asks, on what the call before left.
use Rattle.std.specs.Prelude.{ℕ, ◌≤◌, min, ◌≡◌, List, [], ◌∷◌, ◌++◌, map, true, length, get_or}
use Rattle.model.specs.Limits.{most_dropped}
use Rattle.model.specs.Config.{Config, valid_of, keeps_oldest}
use Rattle.model.specs.State.{Inner, held_in}
use Rattle.model.specs.Event.{Stretch, Event, stretch}
use Rattle.model.specs.Run.{result_of, entry_of, after, trace}
use Rattle.model.specs.Formed.{AllGiven}
use Rattle.model.specs.Line.{shown, released_by, stored_by, stored_in, latest_in, released_in, lots_stored, lots_standing, lots_dropped, drops_by, spared_by, ledger_in}
use Rattle.model.specs.Damage.{Damaged, AlikeReply}
use Rattle.model.specs.Demand3.{Acknowledged, without, Drop, remembered_as}
use Rattle.layout.specs.Unit.{unit_in, config_in, config_given}
use Rattle.layout.specs.Records.{room_of}
use Rattle.layout.specs.Kept.{Owned, owned_of, kept_in, state_of}
use Rattle.unit.specs.Fresh.{FreshPromise}
use Rattle.unit.specs.Calls.{results}
use Rattle.board.specs.Runs.{Numbered, numbered, Runs, Taken}

-- calls for the events es, from a fresh unit of the configuration whose characters are cs, that showed xs and left y
pub record Called (cs : List ℕ) (es : List Event) (xs : List Numbered) (y : Owned) : Type 0 where
  pub unit : List ℕ
  pub block : List ℕ
  pub area : List ℕ
  pub fresh : FreshPromise cs (config_given cs).block unit block
  pub room : room_of (config_in unit) ≤ length area
  pub runs : Runs (owned_of unit block area) es xs y

-- all that lent memory means but the port, and the records in it of file g
unfoldable pub inner_lent : Owned → Inner
inner_lent y = (state_of (config_in y.unit) (kept_in y)).inner

unfoldable pub held_lent : Owned → ℕ → List (List ℕ)
held_lent y g = held_in (inner_lent y).history.files g

-- how many records of file g it has dropped, as `osturdam_dropped` tells
abbrev pub dropped_lent : Owned → ℕ → ℕ
dropped_lent y g = get_or (unit_in y.unit).dropped g 0

-- ---- damage

-- the same numbers, and the same reply but for the port status and the check over it
pub record AlikeShown (a b : Numbered) : Type 0 where
  pub answer : a.answer ≡ b.answer
  pub action : a.action ≡ b.action
  pub output : a.output ≡ b.output
  pub sampled : a.sampled ≡ b.sampled
  pub reply : AlikeReply a.reply b.reply

pub data AlikeRun : List Numbered → List Numbered → Type 0 where
  none : AlikeRun [] []
  more : {a b : Numbered} {xs ys : List Numbered} → AlikeShown a b → AlikeRun xs ys → AlikeRun (a ∷ xs) (b ∷ ys)

-- calls that showed xs and left y, with a call put in that those which showed ys and left z had not: it sent and operated nothing, what
-- came before it is the same, what came later alike, and the memory left means the same but for the port
pub record UnseenCall (xs ys : List Numbered) (y z : Owned) : Type 0 where
  pub earlier : List Numbered
  pub call : Numbered
  pub later : List Numbered
  pub without : List Numbered
  pub parts : xs ≡ earlier ++ (call ∷ later)
  pub rest : ys ≡ earlier ++ without
  pub unanswered : call.reply ≡ []
  pub rests : call.action ≡ 0
  pub alike : AlikeRun later without
  pub kept : inner_lent y ≡ inner_lent z

-- ---- records

-- calls that showed xs and left y: what they showed is the definition's trace in numbers, the records stored, with those dropped struck out,
-- are those released and then those in the memory left, which tells how many were dropped, and the reply that this remembers is the latest
-- on the line
pub record Accounts (c : Config) (es : List Event) (xs : List Numbered) (y : Owned) : Type 0 where
  pub shown : xs ≡ map numbered (results (trace c es))
  pub stored : (g : ℕ) → lots_stored (ledger_in c (trace c es) g) ≡ stored_in (trace c es) g
  pub records : (g : ℕ) → lots_standing (ledger_in c (trace c es) g) ≡ released_in c (trace c es) g ++ held_lent y g
  pub dropped : (g : ℕ) → dropped_lent y g ≡ min (length (lots_dropped (ledger_in c (trace c es) g))) most_dropped
  pub oldest : (g : ℕ) → keeps_oldest c g ≡ true → stored_in (trace c es) g ≡ released_in c (trace c es) g ++ held_lent y g
  pub memory : latest_in c (trace c es) ≡ remembered_as (inner_lent y).history.memory (inner_lent y).history.files

-- one call more, for the event e, on the memory y, that left z: what file g held without what is dropped now, and what is stored now, is what
-- is released now, and what it holds then; a release is of what the latest history reply had given the master that acknowledges it, and a
-- drop of none that it had given
pub record AccountsFor (c : Config) (es : List Event) (e : Event) (y z : Owned) (g : ℕ) : Type 0 where
  pub balance : without (drops_by e (result_of c (after c es) e).answer g) (length (spared_by (latest_in c (trace c es)) g)) (held_lent y g)
      ++ stored_by e (inner_lent y).core.clock (result_of c (after c es) e).answer g
      ≡ released_by (latest_in c (trace c es)) (shown c (entry_of c (after c es) e)) g ++ held_lent z g
  pub release : (released_by (latest_in c (trace c es)) (shown c (entry_of c (after c es) e)) g ≡ [] → ⊥)
      → Acknowledged c (latest_in c (trace c es)) (entry_of c (after c es) e) g
  pub dropping : drops_by e (result_of c (after c es) e).answer g ≡ true → Drop c (latest_in c (trace c es)) (held_lent y g) g

-- ---- the demand

-- for the characters of any configuration, and every run of calls
pub record CallsDemand3 (cs : List ℕ) : Type 0 where
  pub taken : {es : List Event} {xs : List Numbered} {y : Owned} → valid_of (config_given cs) ≡ true → AllGiven es → Called cs es xs y → Taken xs
  pub damage : (ds : List Event) (t : Stretch) (es : List Event) {xs ys : List Numbered} {y z : Owned}
      → Damaged t.chars → Called cs (ds ++ (stretch t ∷ es)) xs y → Called cs (ds ++ es) ys z → UnseenCall xs ys y z
  pub records : {es : List Event} {xs : List Numbered} {y : Owned} → Called cs es xs y → Accounts (config_given cs) es xs y
  pub calls : (es : List Event) (e : Event) {xs ys : List Numbered} {y z : Owned}
      → Called cs es xs y → Called cs (es ++ (e ∷ [])) ys z → (g : ℕ) → AccountsFor (config_given cs) es e y z g
