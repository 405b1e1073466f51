-- The configuration: given once, to a fresh unit (Outcomes 5).
use Rattle.std.specs.Prelude.{ℕ, zero, suc, ◌+◌, ◌^◌, List, [], ◌∷◌, Bool, true, false, cond, not, ◌&&◌, ◌||◌, get_or, eqb, leb, ltb}
use Rattle.chars.specs.Put.{part}
use Rattle.chars.specs.Gather.{up_from, every}
use Rattle.model.specs.Limits.{most_values, record_size, most_means, most_doublings}

-- unit address; the equipped inputs, outputs and calculations, each a table of 256 in which 0 is not equipped; the 32 files
-- likewise, with how many values a record of each has and which of them keep the oldest; the length of the parameter block; sixteen places
-- of means, each with its calculation number, its analog and over how many samples it is, 0 where the place is not used
pub record Config : Type 0 where
  pub unit : ℕ
  pub inputs : List ℕ
  pub outputs : List ℕ
  pub calculations : List ℕ
  pub files : List ℕ
  pub values : List ℕ
  pub oldest : List ℕ
  pub block : ℕ
  pub means : List ℕ
  pub sampled : List ℕ
  pub windows : List ℕ

-- a number is equipped where its table has no 0; past the table's end none is
unfoldable pub has : List ℕ → ℕ → Bool
has table n = not (eqb (get_or table n 0) 0)

unfoldable pub within : ℕ → ℕ → ℕ → Bool
within low high n = leb low n && leb n high

-- the kinds of inputs by their numbers: two-bit and simple status, accumulators, analogs (Scans 1; paper 2.1)
abbrev pub two_bits : List ℕ
two_bits = up_from 0x00 32

abbrev pub simples : List ℕ
simples = up_from 0x30 16

abbrev pub accumulators : List ℕ
accumulators = up_from 0x40 32

abbrev pub analogs : List ℕ
analogs = up_from 0x80 128

-- a word of two-bit status, which is a group of contacts (Request 8.1)
unfoldable pub two_bit : ℕ → Bool
two_bit n = ltb n 32

unfoldable pub accumulator : ℕ → Bool
accumulator n = within 0x40 0x5F n

-- an equipped analog (Scans 1)
unfoldable pub has_analog : List ℕ → ℕ → Bool
has_analog table n = leb 0x80 n && has table n

-- none of the n numbers from low on is equipped
unfoldable pub none_in : List ℕ → ℕ → ℕ → Bool
none_in table low n = every (λ x. eqb x 0) (part table low n)

-- an equipped file has 1 to 16 values (Outcomes 6)
unfoldable pub file_valid : Config → ℕ → Bool
file_valid c f = not (has c.files f) || within 1 most_values (get_or c.values f 0)

-- a calculation number is 00 to 7Fh (Scans 18)
unfoldable pub has_calculation : List ℕ → ℕ → Bool
has_calculation table n = ltb n 128 && has table n

-- ---- means

-- the mean of a place: its calculation number, its analog, and over how many samples it is
unfoldable pub number_at : Config → ℕ → ℕ
number_at c p = get_or c.means p 0

unfoldable pub analog_at : Config → ℕ → ℕ
analog_at c p = get_or c.sampled p 0

unfoldable pub window_at : Config → ℕ → ℕ
window_at c p = get_or c.windows p 0

-- the first of the k numbers from p on that passes, or the one behind them
unfoldable pub first_of : (ℕ → Bool) → ℕ → ℕ → ℕ
first_of f p zero = p
first_of f p (suc k) = cond (f p) p (first_of f (suc p) k)

-- a place that is used for calculation number n
unfoldable pub names : Config → ℕ → ℕ → Bool
names c n p = not (eqb (window_at c p) 0) && eqb (number_at c p) n

unfoldable pub place_of : Config → ℕ → ℕ
place_of c n = first_of (names c n) 0 most_means

-- a calculation number that a place is used for
unfoldable pub is_mean : Config → ℕ → Bool
is_mean c n = ltb (place_of c n) most_means

-- 1, 2, 4 up to 256: no power of two past the last is one (Request 4.2)
unfoldable pub doublings_of : ℕ → ℕ
doublings_of n = first_of (λ k. eqb n (2 ^ k)) 0 (suc most_doublings)

unfoldable pub is_power : ℕ → Bool
is_power n = leb (doublings_of n) most_doublings

-- a place that is used has an allowed number of samples, an equipped calculation and analog, and is the only one for its number (Request 4.8)
unfoldable pub mean_valid : Config → ℕ → Bool
mean_valid c p =
    eqb (window_at c p) 0 || (is_power (window_at c p) && (has_calculation c.calculations (number_at c p)
    && (has_analog c.inputs (analog_at c p) && eqb (place_of c (number_at c p)) p)))

unfoldable pub means_valid : Config → Bool
means_valid c = every (mean_valid c) (up_from 0 most_means)

-- the cases of an invalid configuration (Outcomes 6; Request 4.8)
unfoldable pub valid_of : Config → Bool
valid_of c =
    leb c.unit 0x7FE && (leb c.block 512 && (none_in c.inputs 0x20 16 && (none_in c.inputs 0x60 32
    && (none_in c.calculations 0x80 128 && (every (file_valid c) (up_from 0 32) && means_valid c)))))

-- the files are 0 to 31 (History 1)
unfoldable pub has_file : List ℕ → ℕ → Bool
has_file files f = ltb f 32 && has files f

-- a file marked as keeping the oldest; any other drops its oldest for a new record (Request 7.2)
unfoldable pub keeps_oldest : Config → ℕ → Bool
keeps_oldest c f = has c.oldest f

-- the characters of a record of file f (History 3)
unfoldable pub size_of : List ℕ → ℕ → ℕ
size_of values f = record_size (get_or values f 0)
