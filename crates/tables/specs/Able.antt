-- What is known of tables before their plans are put together, and where a scan by plan ends.
use Rattle.std.specs.Prelude.{◌≡◌, ℕ, ◌+◌, ◌<◌, List, Bool, false, get_or}
use Rattle.model.specs.Limits.{reply_head}
use Rattle.model.specs.Tables.{table_of, sendable}
use Rattle.model.specs.Plans.{outcome_for}
use Rattle.tables.specs.Walked.{Found}
use Rattle.tables.specs.declared.Parts.{Parts}

-- which of the first n tables can be sent
pub record Able (table area : List ℕ) (able : List Bool) (n : ℕ) : Type 0 where
  pub judged : (k : ℕ) → k < n → get_or able k false ≡ sendable table area (table_of area k)

-- where 255 words end in a reply
abbrev pub reply_end : ℕ
reply_end = reply_head + 510

-- r is the outcome of table k, whose parts were found, by which can be sent
abbrev pub OutcomeOf : List Bool → Parts → ℕ → ℕ → Type 0
OutcomeOf able t k r = (table area : List ℕ) → Able table area able 16 → Found area k t → r ≡ outcome_for table area k
