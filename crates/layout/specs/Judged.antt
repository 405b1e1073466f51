-- A unit judged by what is lent: its memory, and in place of its records how many each file holds.
use Rattle.std.specs.Prelude.{ℕ, Bool, ◌&&◌, List, [], map, replicate, ◌==◌, nat_le, nat_lt, slice_index, Option}
use Rattle.chars.specs.Gather.{up_from, every}
use Rattle.model.specs.Limits.{most_means}
use Rattle.model.specs.Clock.{clock_fits}
use Rattle.model.specs.Config.{Config, has_file, none_in, means_valid}
use Rattle.model.specs.History.{most_of}
use Rattle.model.specs.State.{Files, State}
use Rattle.model.specs.Fits.{fits, hold_fits, write_fits, givable, memory_fits, port_fits, samples_fit}
use Rattle.layout.specs.Numbers.{
  hold_numbers,
  write_numbers,
  memory_numbers,
  hold_places,
  write_places,
  memory_places,
  hold_in,
  write_in,
  reply_in,
  clock_in,
  hold_at,
  write_at,
  memory_at,
  core_in,
  memory_in,
  port_in,
  mark_at,
  same,
  readable,
}
use Rattle.layout.specs.Unit.{layout_number, unit_in, config_in}
use Rattle.layout.specs.Records.{room_of}
use Rattle.layout.specs.declared.memory.MemoryNumbers.{MemoryNumbers}
use Rattle.model.specs.declared.Core.{Core}
use Rattle.model.specs.declared.HistoryReply.{HistoryReply}
use Rattle.model.specs.declared.Port.{Port}

-- files that hold as many records as counted, each without a character
unfoldable pub files_by : List ℕ → Files
files_by counts = map (λ n. replicate n []) counts

-- samples of means, as many as counted
unfoldable pub samples_by : List ℕ → List (List ℕ)
samples_by taken = map (λ n. replicate n 0) taken

-- a kept state with a block of that length, those plans and as many records and samples as counted: what else it holds, fits never asks
unfoldable pub kept_by : ℕ → List ℕ → List ℕ → List ℕ → Core → Option HistoryReply → Port → State
kept_by lent plans counts taken core memory port =
    record {
      inner = record {
        core = core;
        areas = record { words = []; values = []; fixed = []; block = replicate lent 0; changed = []; samples = samples_by taken; plans = plans };
        history = record { memory = memory; files = files_by counts; dropped = [] };
      };
      port = port;
    }

-- fits, of a unit of which only the length of the block, the plans and the numbers of records and samples are at hand
unfoldable pub fits_by : Config → ℕ → List ℕ → List ℕ → List ℕ → Core → Option HistoryReply → Port → Bool
fits_by c lent plans counts taken core memory port = fits c (kept_by lent plans counts taken core memory port)

-- the same of a unit's memory, with the room that is lent for records: of this layout, enough room, and numbers of a unit, which fits
unfoldable pub fits_in : List ℕ → ℕ → ℕ → Bool
fits_in u lent room =
    ((unit_in u).layout == layout_number) && (nat_le (room_of (config_in u)) room
    && (readable (unit_in u).numbers && fits_by (config_in u) lent (unit_in u).plans (unit_in u).counts (unit_in u).taken
    (core_in (unit_in u).numbers) (memory_in (unit_in u).numbers) (port_in (unit_in u).numbers)))

-- ---- the same part by part: numbers that a unit writes for what they mean, which is in range

unfoldable pub clock_judged : List ℕ → Bool
clock_judged ks = (nat_lt (slice_index ks 1) 256 && nat_lt (slice_index ks 2) 256 && nat_lt (slice_index ks 3) 256) && clock_fits (clock_in ks)

unfoldable pub hold_judged : Config → List ℕ → Bool
hold_judged c ks = same (hold_places (hold_numbers (hold_in (hold_at ks)))) (hold_places (hold_at ks)) && hold_fits c (hold_in (hold_at ks))

unfoldable pub write_judged : List ℕ → Bool
write_judged ks = same (write_places (write_numbers (write_in (write_at ks)))) (write_places (write_at ks)) && write_fits (write_in (write_at ks))

unfoldable pub bits_judged : List ℕ → Bool
bits_judged ks = nat_lt (slice_index ks 15) 2 && nat_lt (slice_index ks 16) 2 && nat_lt (slice_index ks 17) 2

unfoldable pub memory_judged : Config → List ℕ → List ℕ → Bool
memory_judged c counts ks =
    same (memory_places (memory_numbers (reply_in (memory_at ks)))) (memory_places (memory_at ks)) && memory_fits c (files_by counts) (memory_in ks)

-- the same of a reply, by its numbers as they are kept; what it can carry is below 256, so that the quantity needs no bound of its own
unfoldable pub reply_judged : List ℕ → List ℕ → List ℕ → MemoryNumbers → Bool
reply_judged files values counts n =
    nat_le n.master 31 && (has_file files n.file && (nat_lt n.dump 2 && (nat_lt n.more 2
    && givable (most_of values n.file (n.dump == 1)) (slice_index counts n.file) n.quantity (n.more == 1))))

unfoldable pub port_judged : List ℕ → Bool
port_judged ks = nat_lt (mark_at ks) 3 && port_fits (port_in ks)

-- all but the memory, which lies with the files
unfoldable pub core_judged : Config → List ℕ → Bool
core_judged c ks = clock_judged ks && (hold_judged c ks && (write_judged ks && (bits_judged ks && port_judged ks)))

-- what a valid configuration asks of all but the files, and the block lent as long as it says
unfoldable pub config_judged : Config → ℕ → Bool
config_judged c lent =
    nat_le c.unit 0x7FE && (nat_le c.block 512 && (lent == c.block
    && (none_in c.inputs 0x20 16 && (none_in c.inputs 0x60 32 && none_in c.calculations 0x80 128))))

-- means that are valid, with no more samples than each is over
unfoldable pub means_judged : Config → List ℕ → Bool
means_judged c taken = means_valid c && every (samples_fit c (samples_by taken)) (up_from 0 most_means)
