-- What a walk of the table area keeps, and what a scan finds by it.
use Rattle.std.specs.Prelude.{◌≡◌, ℕ, ◌+◌, ◌-◌, ◌/◌, ◌%◌, ◌<◌, List, cond, length, get_or}
use Rattle.model.specs.Tables.{stands_at, start_of, table_of}
use Rattle.tables.specs.Judged.{Within}
use Rattle.tables.specs.declared.Parts.{Parts}

abbrev pub area_long : ℕ
area_long = 256

-- a table has two characters at least, so none starts at the last of the area
abbrev pub no_start : ℕ
no_start = 255

-- where the table after the first k starts, if it is present
unfoldable pub kept_start : List ℕ → ℕ → ℕ
kept_start area k = cond (stands_at area (start_of area k)) (start_of area k) no_start

-- the starts of the first k tables are kept at their numbers, and none at those after them
pub record Passed (area starts : List ℕ) (k : ℕ) : Type 0 where
  pub room : k < length starts
  pub kept : (j : ℕ) → j < k → get_or starts (j + 1) 0 ≡ kept_start area j
  pub ahead : (j : ℕ) → k < j → j < length starts → get_or starts j 0 ≡ no_start

-- the start of table k is kept, if k is the number of one
pub record StartKept (area starts : List ℕ) (k : ℕ) : Type 0 where
  pub room : k < length starts
  pub start : 0 < k → get_or starts k 0 ≡ kept_start area (k - 1)

-- table k, and those that its nibbles name
pub record Found (area : List ℕ) (k : ℕ) (t : Parts) : Type 0 where
  pub own : t.own ≡ table_of area k
  pub one : t.one ≡ table_of area (t.own.nibbles / 16)
  pub two : t.two ≡ table_of area (t.own.nibbles % 16)
  pub within : Within area t.one × Within area t.two × Within area t.own
