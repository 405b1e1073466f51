-- What a run is given, and how long the lists are that a unit keeps.
use Rattle.std.specs.Prelude.{ℕ, ◌≡◌, List, [], ◌∷◌, length}
use Rattle.chars.specs.Word.{Characters}
use Rattle.model.specs.Config.{Config, size_of}
use Rattle.model.specs.State.{State, held_in}
use Rattle.model.specs.Event.{Event, stretch, elapsed, local}

-- a line carries characters; nothing is asked of time and of the local events
abbrev pub Given : Event → Type 0
Given (stretch s) = Characters s.chars
Given (elapsed ms) = Unit {0}
Given (local l) = Unit {0}

-- each event of a run is given
abbrev pub AllGiven : List Event → Type 0
AllGiven [] = Unit {0}
AllGiven (e ∷ es) = Given e × AllGiven es

-- each record has n characters
pub data AllSized (n : ℕ) : List (List ℕ) → Type 0 where
  none : AllSized n []
  one : {r : List ℕ} {rs : List (List ℕ)} → length r ≡ n → AllSized n rs → AllSized n (r ∷ rs)

-- the areas of fixed length, the bits of the 32 groups, the samples of sixteen places, the 32 files with their numbers dropped, and each file's records (Scans 2, 18; Write 1; History 1, 3; Request 4.2, 8.1)
pub record Formed (c : Config) (s : State) : Type 0 where
  pub words : length s.inner.areas.words ≡ 256
  pub values : length s.inner.areas.values ≡ 128
  pub fixed : length s.inner.areas.fixed ≡ 528
  pub changed : length s.inner.areas.changed ≡ 32
  pub samples : length s.inner.areas.samples ≡ 16
  pub files : length s.inner.history.files ≡ 32
  pub dropped : length s.inner.history.dropped ≡ 32
  pub records : (f : ℕ) → AllSized (size_of c.values f) (held_in s.inner.history.files f)
