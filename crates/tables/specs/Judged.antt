-- What is judged of tables before one is scanned.
use Rattle.std.specs.Prelude.{◌≡◌, ℕ, ◌+◌, ◌≤◌, List, Bool, ◌&&◌, length}
use Rattle.model.specs.Frame.{Request}
use Rattle.model.specs.Scan.{Scan, refuses}
use Rattle.model.specs.Tables.{sendable, table_asked}
use Rattle.model.specs.declared.Table.{Table}
use Rattle.model.specs.declared.Outcome.{Outcome}

-- the numbers of a table lie within the table area
pub record Within (area : List ℕ) (t : Table) : Type 0 where
  pub inside : t.start + t.quantity ≤ length area

-- all three tables of a scan can be sent
abbrev pub all_sendable : List ℕ → List ℕ → Table → Table → Table → Bool
all_sendable table area one two own = sendable table area own && (sendable table area one && sendable table area two)

-- a request is left to the scan of table k, by whichever scan
pub record LeftTo (q : Request) (k : ℕ) : Type 0 where
  pub asks : (scan : ℕ → Scan) → table_asked scan q ≡ scan k

-- or refused, by whichever scan
pub record TurnedAway (q : Request) (o : Outcome) : Type 0 where
  pub refused : (scan : ℕ → Scan) → table_asked scan q ≡ refuses o
