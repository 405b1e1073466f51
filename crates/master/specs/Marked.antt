-- Which characters stand in a list, as a table with a mark at the place of each.
use Rattle.std.specs.Prelude.{ℕ, ◌<◌, List, ◌≡◌, Bool, false, length, get_or}
use Rattle.model.specs.Believe.{stands}

pub record Marked (ys : List ℕ) (marks : List Bool) : Type 0 where
  pub many : length marks ≡ 256
  pub each : (n : ℕ) → n < 256 → get_or marks n false ≡ stands n ys
