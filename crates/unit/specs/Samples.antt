-- What a sample does to lent characters.
use Rattle.std.specs.Prelude.{◌≡◌, ℕ, not, T, List, [], ◌∷◌, ◌++◌, length, is_nan, slice_index, to_bits}
use Rattle.std.specs.Float.{binary32}
use Rattle.chars.specs.Put.{put}
use Rattle.chars.specs.Word.{word}
use Rattle.chars.specs.Gather.{gather}
use Rattle.model.specs.Config.{analog_at, window_at}
use Rattle.model.specs.Means.{last_of, sampled_of}
use Rattle.model.specs.declared.Sampled.{Sampled}
use Rattle.model.specs.declared.Sampled.TheVariants.{Ready, NotReady}
use Rattle.model.specs.declared.Answer.{Answer}
use Rattle.model.specs.declared.Answer.TheVariants.{Ended, Storing, Sampling}
use Rattle.layout.specs.Unit.{unit_in, config_in, put_value, put_taken}
use Rattle.layout.specs.Records.{words_from, packed}

-- the k samples from an index on with one more, and without the oldest where they are more than n (Request 4.3, 4.4)
unfoldable pub slid : List ℕ → ℕ → ℕ → ℕ → ℕ → List ℕ
slid area at k n w = last_of n (words_from area at k ++ (w ∷ []))

-- those of place p, with the analog's word as it is now
abbrev pub slid_in : List ℕ → List ℕ → ℕ → List ℕ
slid_in u area p = slid area ((packed (config_in u)).window p) (slice_index (unit_in u).taken p) (window_at (config_in u) p) (slice_index (unit_in u).words (analog_at (config_in u) p))

-- a mean is its number's value
unfoldable pub put_mean : List ℕ → ℕ → Sampled → List ℕ
put_mean u n (Ready x) = put_value u n (to_bits binary32 x)
put_mean u n (NotReady m) = u

-- a sample for place p, whose calculation number is n: every character of the unit and of the lent room
pub record TakePromise (u area : List ℕ) (p n : ℕ) (v area' : List ℕ) (r : Sampled) : Type 0 where
  pub ended : r ≡ sampled_of (window_at (config_in u) p) (slid_in u area p)
  pub moved : area' ≡ put area ((packed (config_in u)).window p) (gather word (slid_in u area p))
  pub left : v ≡ put_mean (put_taken u p (length (slid_in u area p))) n r

-- a mean is a number, so that its bits can be read
unfoldable pub IsNumber : Sampled → Type 0
IsNumber (Ready x) = T (not (is_nan x))
IsNumber (NotReady m) = Unit

unfoldable pub Numeric : Answer → Type 0
Numeric (Ended o) = Unit
Numeric (Storing o) = Unit
Numeric (Sampling s) = IsNumber s
