-- What holds of the plans in every run: they are those of the tables, so that none is older (Request 12.5).
use Rattle.std.specs.Prelude.{◌≡◌, ℕ, ◌<◌, List, get_or}
use Rattle.model.specs.Config.{Config}
use Rattle.model.specs.Frame.{Request}
use Rattle.model.specs.State.{Areas}
use Rattle.model.specs.Tables.{scan_numbers, table_area, tables_of}
use Rattle.model.specs.Plans.{plans_of, planned_numbers, planned_of}

-- the areas with plans made anew of their tables
unfoldable pub replanned : List ℕ → Areas → Areas
replanned table a =
    record { words = a.words; values = a.values; fixed = a.fixed; block = a.block; changed = a.changed; samples = a.samples; plans = plans_of table (table_area a.fixed) }

-- the plans are those of the tables: 0Ah by plan is the plain reading, what it carries are that one's numbers (Request 8.3), and plans made anew
-- are those held
pub record PlansHeld (c : Config) (a : Areas) : Type 0 where
  pub plans : a.plans ≡ plans_of c.inputs (table_area a.fixed)
  pub scans : (q : Request) → planned_of a.plans a.fixed a.words q ≡ tables_of c.inputs a.fixed a.words q
  pub carried : (k : ℕ) → k < 16 → get_or a.plans k 0 ≡ 0 → planned_numbers a.plans (table_area a.fixed) k ≡ scan_numbers (table_area a.fixed) k
  pub anew : replanned c.inputs a ≡ a
