-- Where everything lies in a unit's memory, and what its characters mean. This stands once.
use Rattle.std.specs.Prelude.{◌≡◌, ℕ, ◌+◌, ◌*◌, cond, List, [], ◌∷◌, ◌++◌, length, replicate, nat_le, slice_index}
use Rattle.chars.specs.Put.{put}
use Rattle.chars.specs.Word.{word, value, word_at}
use Rattle.model.specs.Config.{Config}
use Rattle.layout.specs.declared.Places.{Places}
use Rattle.layout.specs.Regions.{start_in, region_in}

-- ---- the regions, in their order, with their sizes

-- the configuration: unit number and length of the parameter block, the equipped inputs, outputs, calculations and files, the
-- values of a file's records, the files that keep the oldest, the calculation numbers of the means, their analogs, and over how many samples
-- each is
abbrev pub config_sizes : List ℕ
config_sizes = 2 ∷ 2 ∷ 256 ∷ 256 ∷ 256 ∷ 32 ∷ 32 ∷ 32 ∷ 16 ∷ 16 ∷ 32 ∷ []

-- what a unit keeps: the numbers of clock, select, write, status, latest history reply and port, the input words, the calculation
-- values, the fixed blocks, the record counts, the numbers of dropped records, the contacts that changed, how many
-- samples of each mean are in, the scan plans
abbrev pub kept_sizes : List ℕ
kept_sizes = 52 ∷ 512 ∷ 512 ∷ 528 ∷ 32 ∷ 64 ∷ 32 ∷ 32 ∷ 112 ∷ []

-- first the number of this layout, so that a memory of another is never misread
unfoldable pub unit_sizes : List ℕ
unit_sizes = 2 ∷ (config_sizes ++ kept_sizes)

abbrev pub layout_region : ℕ
layout_region = 0

abbrev pub number_region : ℕ
number_region = 1

abbrev pub length_region : ℕ
length_region = 2

abbrev pub inputs_region : ℕ
inputs_region = 3

abbrev pub outputs_region : ℕ
outputs_region = 4

abbrev pub calculations_region : ℕ
calculations_region = 5

abbrev pub files_region : ℕ
files_region = 6

abbrev pub values_region : ℕ
values_region = 7

abbrev pub oldest_region : ℕ
oldest_region = 8

abbrev pub means_region : ℕ
means_region = 9

abbrev pub sampled_region : ℕ
sampled_region = 10

abbrev pub windows_region : ℕ
windows_region = 11

abbrev pub numbers_region : ℕ
numbers_region = 12

abbrev pub words_region : ℕ
words_region = 13

abbrev pub results_region : ℕ
results_region = 14

abbrev pub fixed_region : ℕ
fixed_region = 15

abbrev pub counts_region : ℕ
counts_region = 16

abbrev pub dropped_region : ℕ
dropped_region = 17

abbrev pub changed_region : ℕ
changed_region = 18

abbrev pub taken_region : ℕ
taken_region = 19

abbrev pub plans_region : ℕ
plans_region = 20

-- where a region of a unit starts
abbrev pub region_start : ℕ → ℕ
region_start k = start_in unit_sizes k

-- how long a unit's memory is
abbrev pub unit_long : ℕ
unit_long = region_start (length unit_sizes)

-- how long a configuration is
abbrev pub config_long : ℕ
config_long = start_in config_sizes (length config_sizes)

-- the number of this layout
abbrev pub layout_number : ℕ
layout_number = 6

unfoldable pub places_of : Places
places_of =
    record {
      layout = region_start layout_region;
      number = region_start number_region;
      length = region_start length_region;
      inputs = region_start inputs_region;
      outputs = region_start outputs_region;
      calculations = region_start calculations_region;
      files = region_start files_region;
      values = region_start values_region;
      oldest = region_start oldest_region;
      means = region_start means_region;
      sampled = region_start sampled_region;
      windows = region_start windows_region;
      numbers = region_start numbers_region;
      words = region_start words_region;
      results = region_start results_region;
      fixed = region_start fixed_region;
      counts = region_start counts_region;
      dropped = region_start dropped_region;
      changed = region_start changed_region;
      taken = region_start taken_region;
      plans = region_start plans_region;
      config = config_long;
      unit = unit_long;
      current = layout_number;
    }

-- ---- what a region's characters mean

-- words of two characters, low character first (document 01, head)
unfoldable pub words_in : List ℕ → List ℕ
words_in [] = []
words_in (a ∷ []) = a ∷ []
words_in (a ∷ b ∷ r) = (a + 256 * b) ∷ words_in r

-- values of four, likewise (Scans 25)
unfoldable pub results_in : List ℕ → List ℕ
results_in [] = []
results_in (a ∷ []) = a ∷ []
results_in (a ∷ b ∷ []) = (a + 256 * b) ∷ []
results_in (a ∷ b ∷ c ∷ []) = (a + 256 * b + 65536 * c) ∷ []
results_in (a ∷ b ∷ c ∷ d ∷ r) = (a + 256 * b + 65536 * (c + 256 * d)) ∷ results_in r

-- ---- what a unit's memory means

pub record Unit : Type 0 where
  pub layout : ℕ
  pub config : Config
  pub numbers : List ℕ
  pub words : List ℕ
  pub values : List ℕ
  pub fixed : List ℕ
  pub counts : List ℕ
  pub dropped : List ℕ
  pub changed : List ℕ
  pub taken : List ℕ
  pub plans : List ℕ

unfoldable pub config_from : (ℕ → List ℕ) → Config
config_from r =
    record {
      unit = word_at (r number_region) 0;
      inputs = r inputs_region;
      outputs = r outputs_region;
      calculations = r calculations_region;
      files = r files_region;
      values = r values_region;
      oldest = r oldest_region;
      block = word_at (r length_region) 0;
      means = r means_region;
      sampled = r sampled_region;
      windows = words_in (r windows_region);
    }

unfoldable pub unit_from : (ℕ → List ℕ) → Unit
unit_from r =
    record {
      layout = word_at (r layout_region) 0;
      config = config_from r;
      numbers = words_in (r numbers_region);
      words = words_in (r words_region);
      values = results_in (r results_region);
      fixed = r fixed_region;
      counts = r counts_region;
      dropped = words_in (r dropped_region);
      changed = r changed_region;
      taken = words_in (r taken_region);
      plans = r plans_region;
    }

abbrev pub unit_in : List ℕ → Unit
unit_in u = unit_from (region_in unit_sizes u)

abbrev pub config_in : List ℕ → Config
config_in u = (unit_in u).config

-- ---- a part anew

abbrev pub set_numbers : Unit → List ℕ → Unit
set_numbers x ks = record { layout = x.layout; config = x.config; numbers = ks; words = x.words; values = x.values; fixed = x.fixed; counts = x.counts; dropped = x.dropped; changed = x.changed; taken = x.taken; plans = x.plans }

abbrev pub set_words : Unit → List ℕ → Unit
set_words x ws = record { layout = x.layout; config = x.config; numbers = x.numbers; words = ws; values = x.values; fixed = x.fixed; counts = x.counts; dropped = x.dropped; changed = x.changed; taken = x.taken; plans = x.plans }

abbrev pub set_values : Unit → List ℕ → Unit
set_values x vs = record { layout = x.layout; config = x.config; numbers = x.numbers; words = x.words; values = vs; fixed = x.fixed; counts = x.counts; dropped = x.dropped; changed = x.changed; taken = x.taken; plans = x.plans }

abbrev pub set_fixed : Unit → List ℕ → Unit
set_fixed x fs = record { layout = x.layout; config = x.config; numbers = x.numbers; words = x.words; values = x.values; fixed = fs; counts = x.counts; dropped = x.dropped; changed = x.changed; taken = x.taken; plans = x.plans }

abbrev pub set_counts : Unit → List ℕ → Unit
set_counts x ns = record { layout = x.layout; config = x.config; numbers = x.numbers; words = x.words; values = x.values; fixed = x.fixed; counts = ns; dropped = x.dropped; changed = x.changed; taken = x.taken; plans = x.plans }

abbrev pub set_dropped : Unit → List ℕ → Unit
set_dropped x ns =
    record { layout = x.layout; config = x.config; numbers = x.numbers; words = x.words; values = x.values; fixed = x.fixed; counts = x.counts; dropped = ns; changed = x.changed; taken = x.taken; plans = x.plans }

abbrev pub set_changed : Unit → List ℕ → Unit
set_changed x bs =
    record { layout = x.layout; config = x.config; numbers = x.numbers; words = x.words; values = x.values; fixed = x.fixed; counts = x.counts; dropped = x.dropped; changed = bs; taken = x.taken; plans = x.plans }

abbrev pub set_taken : Unit → List ℕ → Unit
set_taken x ns =
    record { layout = x.layout; config = x.config; numbers = x.numbers; words = x.words; values = x.values; fixed = x.fixed; counts = x.counts; dropped = x.dropped; changed = x.changed; taken = ns; plans = x.plans }

abbrev pub set_plans : Unit → List ℕ → Unit
set_plans x ps =
    record { layout = x.layout; config = x.config; numbers = x.numbers; words = x.words; values = x.values; fixed = x.fixed; counts = x.counts; dropped = x.dropped; changed = x.changed; taken = x.taken; plans = ps }

-- the words and the contacts that changed
abbrev pub set_contacts : Unit → List ℕ → List ℕ → Unit
set_contacts x ws bs = set_changed (set_words x ws) bs

-- ---- characters written into a region, every other left; nothing, where they would not lie in it

-- characters from character i of region k on
unfoldable pub put_in : List ℕ → ℕ → ℕ → List ℕ → List ℕ
put_in u k i ys = cond (nat_le (i + length ys) (slice_index unit_sizes k)) (put u (region_start k + i) ys) u

abbrev pub put_number : List ℕ → ℕ → ℕ → List ℕ
put_number u i v = put_in u numbers_region (2 * i) (word v)

abbrev pub put_word : List ℕ → ℕ → ℕ → List ℕ
put_word u n v = put_in u words_region (2 * n) (word v)

abbrev pub put_value : List ℕ → ℕ → ℕ → List ℕ
put_value u n v = put_in u results_region (4 * n) (value v)

abbrev pub put_fixed : List ℕ → ℕ → List ℕ → List ℕ
put_fixed u at ys = put_in u fixed_region at ys

abbrev pub put_count : List ℕ → ℕ → ℕ → List ℕ
put_count u f n = put_in u counts_region f (n ∷ [])

-- all counts anew
abbrev pub put_counts : List ℕ → List ℕ → List ℕ
put_counts u ns = put_in u counts_region 0 ns

abbrev pub put_dropped : List ℕ → ℕ → ℕ → List ℕ
put_dropped u f n = put_in u dropped_region (2 * f) (word n)

abbrev pub put_changed : List ℕ → ℕ → ℕ → List ℕ
put_changed u g b = put_in u changed_region g (b ∷ [])

abbrev pub put_taken : List ℕ → ℕ → ℕ → List ℕ
put_taken u p n = put_in u taken_region (2 * p) (word n)

-- characters of the plans, and all plans anew
abbrev pub put_plans_at : List ℕ → ℕ → List ℕ → List ℕ
put_plans_at u at ps = put_in u plans_region at ps

abbrev pub put_plans : List ℕ → List ℕ → List ℕ
put_plans u ps = put_plans_at u 0 ps

-- the kept numbers
abbrev pub numbers_in : List ℕ → List ℕ
numbers_in u = (unit_in u).numbers

-- a memory v that means what u means, but for the kept numbers, and is as long
pub record Renumbered (u v ks : List ℕ) : Type 0 where
  pub means : unit_in v ≡ set_numbers (unit_in u) ks
  pub long : length v ≡ length u

-- the same, whatever the numbers are now
abbrev pub NumbersOnly : List ℕ → List ℕ → Type 0
NumbersOnly u v = Renumbered u v (numbers_in v)

-- ---- characters written into those of a configuration: its unit number, an input equipped

abbrev pub name_unit : List ℕ → ℕ → List ℕ
name_unit cs n = put cs (start_in config_sizes 0) (word n)

abbrev pub equip_input : List ℕ → ℕ → List ℕ
equip_input cs n = put cs (start_in config_sizes 2 + n) (1 ∷ [])

-- what the characters of a configuration mean
abbrev pub config_given : List ℕ → Config
config_given cs = config_from (region_in (0 ∷ config_sizes) cs)

-- ---- a unit with nothing in it but a configuration

-- its characters: this layout's number, those of the configuration, and 0 behind them
unfoldable pub blank_unit : List ℕ → List ℕ
blank_unit cs = put (put (replicate unit_long 0) (region_start layout_region) (word layout_number)) (region_start number_region) cs

-- what they mean
abbrev pub blank_of : Config → Unit
blank_of c =
    record {
      layout = layout_number;
      config = c;
      numbers = replicate 26 0;
      words = replicate 256 0;
      values = replicate 128 0;
      fixed = replicate 528 0;
      counts = replicate 32 0;
      dropped = replicate 32 0;
      changed = replicate 32 0;
      taken = replicate 16 0;
      plans = replicate 112 0;
    }
