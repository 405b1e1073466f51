-- What a unit keeps: core, areas and history, and the port beside them.
use Rattle.std.specs.Prelude.{ℕ, ◌+◌, List, [], ◌∷◌, ◌++◌, true, false, get_or, set, take, drop, replicate, None, Option}
use Rattle.model.specs.Limits.{most_means}
use Rattle.model.specs.Config.{Config}
use Rattle.model.specs.Plans.{empty_plans}
use Rattle.model.specs.declared.Core.{Core}
use Rattle.model.specs.declared.Hold.TheVariants.{Free}
use Rattle.model.specs.declared.HistoryReply.{HistoryReply}
use Rattle.model.specs.declared.Mark.TheVariants.{Fine}
use Rattle.model.specs.declared.Port.{Port}

-- 256 words of inputs, 128 calculation values, the fixed area of 528 characters, the parameter block; for each of the 32 groups of contacts
-- a bit each that changed since the group's last reply, for each place of a mean the samples that are in, oldest first, and the scan plans
-- (Scans 2, 18; Write 1; Request 4.3, 4.4, 8.1, 12.2)
pub record Areas : Type 0 where
  pub words : List ℕ
  pub values : List ℕ
  pub fixed : List ℕ
  pub block : List ℕ
  pub changed : List ℕ
  pub samples : List (List ℕ)
  pub plans : List ℕ

-- for each file its records, oldest first (History 4)
abbrev pub Files : Type 0
Files = List (List (List ℕ))

-- the latest history reply, the records, and for each file how many it dropped (History 6; Request 7.7)
pub record History : Type 0 where
  pub memory : Option HistoryReply
  pub files : Files
  pub dropped : List ℕ

-- all that is kept but the port
pub record Inner : Type 0 where
  pub core : Core
  pub areas : Areas
  pub history : History

pub record State : Type 0 where
  pub inner : Inner
  pub port : Port

-- the records held in file f
unfoldable pub held_in : Files → ℕ → List (List ℕ)
held_in fs f = get_or fs f []

-- one record more, the newest
unfoldable pub store_in : Files → ℕ → List ℕ → Files
store_in fs f r = set fs f (held_in fs f ++ (r ∷ []))

-- n records leave, from the place `at` on; the oldest stand at 0
unfoldable pub cut_in : Files → ℕ → ℕ → ℕ → Files
cut_in fs f at n = set fs f (take at (held_in fs f) ++ drop (at + n) (held_in fs f))

-- a fresh unit: day 1, 00:00:00.000, bit 7, all else empty or 0 (Outcomes 8; Frames 10)
unfoldable pub fresh_core : Core
fresh_core =
    record {
      clock = record { day = 1; hour = 0; minute = 0; second = 0; ms = 0 };
      hold = Free;
      write = None;
      configure = true;
      error = false;
      broadcast = false;
    }

-- with the plans of its empty tables (Request 12.5)
unfoldable pub fresh_areas : Config → Areas
fresh_areas c =
    record {
      words = replicate 256 0;
      values = replicate 128 0;
      fixed = replicate 528 0;
      block = replicate c.block 0;
      changed = replicate 32 0;
      samples = replicate most_means [];
      plans = empty_plans;
    }

unfoldable pub fresh_history : History
fresh_history = record { memory = None; files = replicate 32 []; dropped = replicate 32 0 }

unfoldable pub fresh_port : Port
fresh_port = record { silence = 0; mark = Fine }

unfoldable pub fresh_of : Config → State
fresh_of c = record { inner = record { core = fresh_core; areas = fresh_areas c; history = fresh_history }; port = fresh_port }
