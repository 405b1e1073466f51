-- All that a unit keeps: what its owner lends, what that means, and the definition's state for which it stands.
use Rattle.std.specs.Prelude.{◌≡◌, ℕ, Bool, ◌&&◌, List, length, ◌==◌, nat_le, Option}
use Rattle.model.specs.Config.{Config}
use Rattle.model.specs.State.{Areas, Files, History, Inner, State}
use Rattle.model.specs.declared.Core.{Core}
use Rattle.model.specs.declared.HistoryReply.{HistoryReply}
use Rattle.model.specs.declared.Port.{Port}
use Rattle.layout.specs.Records.{Layout, packed, files_laid, files_in, samples_laid, room_of}
use Rattle.layout.specs.Numbers.{core_in, memory_in, port_in, readable}
use Rattle.layout.specs.Unit.{Unit, layout_number, unit_in, config_in, numbers_in}

pub record Kept : Type 0 where
  pub core : Core
  pub memory : Option HistoryReply
  pub port : Port
  pub words : List ℕ
  pub results : List ℕ
  pub fixed : List ℕ
  pub block : List ℕ
  pub area : List ℕ
  pub counts : List ℕ
  pub dropped : List ℕ
  pub changed : List ℕ
  pub taken : List ℕ
  pub plans : List ℕ

abbrev pub kept_of : Core → Option HistoryReply → Port → List ℕ → List ℕ → List ℕ → List ℕ → List ℕ → List ℕ → List ℕ → List ℕ → List ℕ → List ℕ → Kept
kept_of core memory port words results fixed block area counts dropped changed taken plans =
    record {
      core = core;
      memory = memory;
      port = port;
      words = words;
      results = results;
      fixed = fixed;
      block = block;
      area = area;
      counts = counts;
      dropped = dropped;
      changed = changed;
      taken = taken;
      plans = plans;
    }

abbrev pub areas_of : List ℕ → List ℕ → List ℕ → List ℕ → List ℕ → List (List ℕ) → List ℕ → Areas
areas_of words results fixed block changed samples plans =
    record { words = words; values = results; fixed = fixed; block = block; changed = changed; samples = samples; plans = plans }

abbrev pub inner_of : Core → Areas → Option HistoryReply → Files → List ℕ → Inner
inner_of core areas memory fs dropped = record { core = core; areas = areas; history = record { memory = memory; files = fs; dropped = dropped } }

-- the records of the files and the samples of the means are those that stand in the lent characters, as a layout has them
abbrev pub state_laid : Layout → Config → Kept → State
state_laid l c k =
    record {
      inner = inner_of k.core (areas_of k.words k.results k.fixed k.block k.changed (samples_laid l k.area k.taken) k.plans) k.memory (files_laid l c.values k.area k.counts) k.dropped;
      port = k.port;
    }

abbrev pub state_of : Config → Kept → State
state_of c k = state_laid (packed c) c k

-- ---- what is lent

-- the areas of a unit's memory, its parameter block and samples
abbrev pub areas_by : Unit → List ℕ → List (List ℕ) → Areas
areas_by x block ss = areas_of x.words x.values x.fixed block x.changed ss x.plans

abbrev pub areas_in : List ℕ → List ℕ → List (List ℕ) → Areas
areas_in u block ss = areas_by (unit_in u) block ss

-- the samples in the lent characters
abbrev pub samples_held : List ℕ → List ℕ → List (List ℕ)
samples_held u area = samples_laid (packed (config_in u)) area (unit_in u).taken

-- the records in the lent characters
abbrev pub files_held : List ℕ → List ℕ → Files
files_held u area = files_in (config_in u) area (unit_in u).counts

-- the remembered reply, the records in the lent characters, and the numbers dropped
abbrev pub history_in : List ℕ → List ℕ → History
history_in u area = record { memory = memory_in (numbers_in u); files = files_held u area; dropped = (unit_in u).dropped }

-- all that is kept but the port: the memory, the parameter block, and samples and records or the characters of these
abbrev pub inner_by : List ℕ → List ℕ → List (List ℕ) → Files → Inner
inner_by u block ss fs = inner_of (core_in (numbers_in u)) (areas_in u block ss) (memory_in (numbers_in u)) fs (unit_in u).dropped

abbrev pub inner_in : List ℕ → List ℕ → List ℕ → Inner
inner_in u block area = inner_by u block (samples_held u area) (files_held u area)

-- all of a unit that its caller owns
pub record Owned : Type 0 where
  pub unit : List ℕ
  pub block : List ℕ
  pub area : List ℕ

abbrev pub owned_of : List ℕ → List ℕ → List ℕ → Owned
owned_of unit block area = record { unit = unit; block = block; area = area }

-- the unit that it means
abbrev pub kept_by : Core → Option HistoryReply → Port → Unit → List ℕ → List ℕ → Kept
kept_by core memory port x block area = kept_of core memory port x.words x.values x.fixed block area x.counts x.dropped x.changed x.taken x.plans

abbrev pub kept_in : Owned → Kept
kept_in x =
    kept_by (core_in (numbers_in x.unit)) (memory_in (numbers_in x.unit)) (port_in (numbers_in x.unit)) (unit_in x.unit) x.block x.area

-- a memory of this layout, room for records and samples as long as the configuration asks, and numbers such as a unit writes
unfoldable pub standing : Owned → Bool
standing x = (unit_in x.unit).layout == layout_number && (nat_le (room_of (config_in x.unit)) (length x.area) && readable (numbers_in x.unit))

-- a memory that keeps its layout, its configuration and its length
pub record Steady (u v : List ℕ) : Type 0 where
  pub layout : (unit_in v).layout ≡ (unit_in u).layout
  pub config : config_in v ≡ config_in u
  pub long : length v ≡ length u
