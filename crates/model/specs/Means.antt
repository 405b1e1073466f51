-- Demand means: calculations that the unit makes of the samples of an analog (Request 4).
use Rattle.std.specs.Prelude.{ℕ, zero, suc, ◌+◌, ◌-◌, List, [], ◌∷◌, ◌++◌, Bool, true, false, cond, not, ◌&&◌, length, get_or, set, take, drop, ℤ, pos, negsuc, ◌+ℤ◌, ltb, Float}
use Rattle.std.specs.Float.{binary32}
use Rattle.std.specs.Float.Ieee.{div, of_int, to_bits}
use Rattle.std.specs.Float.Ieee.Exact.{HasValue}
use Rattle.model.specs.Limits.{most_means}
use Rattle.model.specs.Config.{Config, has_calculation, number_at, analog_at, window_at, place_of, is_mean}
use Rattle.model.specs.State.{Areas}
use Rattle.model.specs.declared.Sampled.{Sampled}
use Rattle.model.specs.declared.Sampled.TheVariants.{Ready, NotReady}

-- ---- the mean of samples

-- an analog's word is two's complement (Scans 2)
unfoldable pub signed_of : ℕ → ℤ
signed_of w = cond (ltb w 32768) (pos w) (negsuc (65535 - w))

-- the whole-number sum
unfoldable pub sum_of : List ℕ → ℤ
sum_of [] = pos 0
sum_of (w ∷ ws) = signed_of w +ℤ sum_of ws

-- the single-precision mean of n samples (Request 4.4)
unfoldable pub mean_of : ℕ → List ℕ → Float
mean_of n ws = div binary32 (of_int binary32 (sum_of ws)) (of_int binary32 (pos n))

-- ---- the samples of a place

unfoldable pub samples_at : List (List ℕ) → ℕ → List ℕ
samples_at ss p = get_or ss p []

-- a mean is not ready until as many samples are in as it asks for; a place that is not used asks for none (Request 4.5)
unfoldable pub waits : Config → List (List ℕ) → ℕ → Bool
waits c ss p = ltb (length (samples_at ss p)) (window_at c p)

-- a table without the number of a place whose mean is not ready, and without those of the first k places
unfoldable pub struck_at : Config → List (List ℕ) → ℕ → List ℕ → List ℕ
struck_at c ss p table = cond (waits c ss p) (set table (number_at c p) 0) table

unfoldable pub struck_to : Config → List (List ℕ) → ℕ → List ℕ → List ℕ
struck_to c ss zero table = table
struck_to c ss (suc k) table = struck_at c ss k (struck_to c ss k table)

-- the calculations that are equipped now: for function 03 a mean that is not ready is not (Request 4.8)
unfoldable pub equipped_now : Config → List (List ℕ) → List ℕ
equipped_now c ss = struck_to c ss most_means (take 128 c.calculations)

-- a value that a local event may set: that of an equipped calculation that is no mean (Request 4.9)
unfoldable pub value_settable : Config → ℕ → Bool
value_settable c n = has_calculation c.calculations n && not (is_mean c n)

-- ---- a sample

-- the last n of a list
unfoldable pub last_of : {A : Type 0} → ℕ → List A → List A
last_of n xs = drop (length xs - n) xs

-- the samples of place p with the analog's word as it is now, and without the oldest where they are more than asked for (Request 4.3, 4.4)
unfoldable pub taken_at : Config → Areas → ℕ → List ℕ
taken_at c a p = last_of (window_at c p) (samples_at a.samples p ++ (get_or a.words (analog_at c p) 0 ∷ []))

-- what samples come to where n are asked for: their mean, or how many are missing (Request 4.7)
unfoldable pub sampled_of : ℕ → List ℕ → Sampled
sampled_of n ws = cond (ltb (length ws) n) (NotReady (n - length ws)) (Ready (mean_of n ws))

-- a mean is its number's value
unfoldable pub values_after : List ℕ → ℕ → Sampled → List ℕ
values_after values n (Ready x) = set values n (to_bits binary32 x)
values_after values n (NotReady m) = values

-- what a sample for calculation number n comes to
unfoldable pub sampled_for : Config → Areas → ℕ → Sampled
sampled_for c a n = sampled_of (window_at c (place_of c n)) (taken_at c a (place_of c n))

unfoldable pub areas_sampled : Config → Areas → ℕ → Areas
areas_sampled c a n =
    record {
      words = a.words;
      values = values_after a.values n (sampled_for c a n);
      fixed = a.fixed;
      block = a.block;
      changed = a.changed;
      samples = set a.samples (place_of c n) (taken_at c a (place_of c n));
      plans = a.plans;
    }

-- ---- what an exact mean is

-- x is the whole number z over n exactly: finite, of z's sign, and its size times n is z's size; 0 is plus zero (Request 4.4)
abbrev pub MeanIs : Float → ℤ → ℕ → Type 0
MeanIs x (pos a) n = HasValue x false a n
MeanIs x (negsuc a) n = HasValue x true (suc a) n
