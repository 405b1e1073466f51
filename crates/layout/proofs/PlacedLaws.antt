-- What is read of the means in a unit's memory: their places, their windows, and how many samples are in. Assumes nothing.
use Rattle.std.specs.Prelude.{◌≡◌, ℕ, ◌+◌, ◌*◌, ◌<◌, ◌≤◌, List, get_or}
use mathlib.Core.Path.{refl, ◌∙◌}
use native.Mathlib.Omega.{arith}
use Rattle.chars.specs.Word.{word_at}
use Rattle.layout.specs.Regions.{region_in}
use Rattle.layout.specs.Unit.{unit_sizes, region_start, windows_region, taken_region, words_in, config_from, unit_from, unit_in, config_in}
use Rattle.layout.proofs.RegionLaws.{region_past}
use Rattle.layout.proofs.UnitLaws.{region_word, words_at_lem}

module _ (u : List ℕ) (p : ℕ) (h : p < 16) where
  pub mean_window_at : get_or (config_in u).windows p 0 ≡ word_at u (region_start windows_region + 2 * p)
  unfolding unit_from config_from unit_sizes
  mean_window_at = words_at_lem (region_in unit_sizes u windows_region) p ∙ region_word u windows_region (2 * p) (omega arith)

  pub taken_at : get_or (unit_in u).taken p 0 ≡ word_at u (region_start taken_region + 2 * p)
  unfolding unit_from unit_sizes
  taken_at = words_at_lem (region_in unit_sizes u taken_region) p ∙ region_word u taken_region (2 * p) (omega arith)

-- a place past the last is not used
module _ (u : List ℕ) (p : ℕ) (h : 16 ≤ p) where
  words-past : (k : ℕ) → get_or unit_sizes k 0 ≡ 32 → get_or (words_in (region_in unit_sizes u k)) p 0 ≡ 0
  unfolding word_at
  words-past k e = words_at_lem (region_in unit_sizes u k) p ∙ rw (region_past unit_sizes u k (2 * p) (omega arith), region_past unit_sizes u k (2 * p + 1) (omega arith))

  pub mean_window-past : get_or (config_in u).windows p 0 ≡ 0
  unfolding unit_from config_from unit_sizes
  mean_window-past = words-past windows_region refl

  pub taken-past : get_or (unit_in u).taken p 0 ≡ 0
  unfolding unit_from unit_sizes
  taken-past = words-past taken_region refl
