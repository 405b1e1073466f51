-- What is owed of means in every run: the samples kept are the last that were taken, and the value that function 03 sends is their mean.
use Rattle.std.specs.Prelude.{◌≡◌, ℕ, ◌≤◌, ◌<◌, List, [], ◌∷◌, ◌++◌, Bool, true, false, cond, length, get_or, eqb}
use Rattle.std.specs.Float.{binary32}
use Rattle.std.specs.Float.Ieee.{to_bits}
use Rattle.chars.specs.Word.{value}
use Rattle.model.specs.Limits.{most_means}
use Rattle.model.specs.Config.{Config, has_calculation, number_at, analog_at, window_at, place_of}
use Rattle.model.specs.State.{State, fresh_of}
use Rattle.model.specs.Means.{sum_of, mean_of, samples_at, waits, equipped_now, last_of, MeanIs}
use Rattle.model.specs.Calculations.{value_of, missing_of}
use Rattle.model.specs.Event.{Local, set_word, set_value, pulses, store, contact, sample, Event, stretch, elapsed, local}
use Rattle.model.specs.Run.{next_of, after}

-- ---- the words that samples took, read off the run

unfoldable pub taken_locally : Config → State → Local → ℕ → List ℕ
taken_locally c s (set_word n w) p = []
taken_locally c s (set_value n v) p = []
taken_locally c s (pulses n k) p = []
taken_locally c s (store f e vs) p = []
taken_locally c s (contact n x) p = []
taken_locally c s (sample n) p = cond (eqb (place_of c n.0) p) (get_or s.inner.areas.words (analog_at c p) 0 ∷ []) []

unfoldable pub taken_by : Config → State → Event → ℕ → List ℕ
taken_by c s (stretch x) p = []
taken_by c s (elapsed ms) p = []
taken_by c s (local l) p = taken_locally c s l p

-- for place p, oldest first
unfoldable pub taken_from : Config → State → List Event → ℕ → List ℕ
taken_from c s [] p = []
taken_from c s (e ∷ es) p = taken_by c s e p ++ taken_from c (next_of c s e) es p

-- ---- what stands of the mean of place p, of which so many samples were taken

-- not ready: for function 03 its number is not equipped (Request 4.5, 4.8)
pub record Waiting (c : Config) (s : State) (p : ℕ) : Type 0 where
  pub unsent : value_of (equipped_now c s.inner.areas.samples) s.inner.areas.values (number_at c p) ≡ []
  pub missing : missing_of (equipped_now c s.inner.areas.samples) (number_at c p) ≡ number_at c p ∷ []

-- ready: its number is equipped, and its value is the mean of the last samples, which is exact (Request 4.4)
pub record Standing (c : Config) (s : State) (p : ℕ) (ws : List ℕ) : Type 0 where
  pub sent : value_of (equipped_now c s.inner.areas.samples) s.inner.areas.values (number_at c p) ≡ value (to_bits binary32 (mean_of (window_at c p) ws))
  pub found : missing_of (equipped_now c s.inner.areas.samples) (number_at c p) ≡ []
  pub held : get_or s.inner.areas.values (number_at c p) 0 ≡ to_bits binary32 (mean_of (window_at c p) ws)
  pub exact : MeanIs (mean_of (window_at c p) ws) (sum_of ws) (window_at c p)

-- after a run that took these samples for a place that is used
pub record Demands (c : Config) (s : State) (p : ℕ) (taken : List ℕ) : Type 0 where
  pub samples : samples_at s.inner.areas.samples p ≡ last_of (window_at c p) taken
  pub waiting : length taken < window_at c p → Waiting c s p
  pub standing : window_at c p ≤ length taken → Standing c s p (last_of (window_at c p) taken)
