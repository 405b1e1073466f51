-- What the contracts over points say beside the model: an answer without data, and a memory in which one point was changed.
use Rattle.std.specs.Prelude.{◌≡◌, ℕ, cond, List, ◌==◌}
use Rattle.model.specs.Outcome.{number_of}
use Rattle.model.specs.Inputs.{Changed}
use Rattle.model.specs.declared.Outcome.{Outcome}
use Rattle.model.specs.declared.Filled.{Filled}

abbrev pub no_data : Outcome → Filled
no_data o = record { outcome = o; count = 0 }

-- a memory u after an event that came to m: w where it was done, else as it was
pub record Sets (m : Changed) (u w v : List ℕ) (r : Outcome) : Type 0 where
  pub ended : r ≡ m.says.outcome
  pub left : v ≡ cond (number_of r == 0) w u
