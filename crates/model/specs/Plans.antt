-- Scan plans: for each table number the outcome of its scan, and where the numbers stand that it sends. They share what the table area holds.
use Rattle.std.specs.Prelude.{ℕ, ◌+◌, ◌*◌, ◌/◌, ◌%◌, List, [], ◌∷◌, ◌++◌, Bool, cond, ◌||◌, get_or, take, replicate, eqb}
use Rattle.chars.specs.Put.{part}
use Rattle.chars.specs.Gather.{gather, up_from, every}
use Rattle.model.specs.Frame.{Request}
use Rattle.model.specs.Outcome.{number_of}
use Rattle.model.specs.Scan.{Scan, tells, refuses}
use Rattle.model.specs.Tables.{table_of, word_in, table_scan, table_area, table_asked}
use Rattle.model.specs.declared.Outcome.TheVariants.{NotValid, TooLong}
use Rattle.model.specs.declared.Table.{Table}

-- ---- plans made

-- the outcome that a scan of table k would give, in which no word has a part (Request 12.2)
unfoldable pub outcome_for : List ℕ → List ℕ → ℕ → ℕ
outcome_for table area k = number_of (table_scan table area [] k).outcome

-- where the numbers of a table start, as one character, and how many they are; only one that has none starts at 256
unfoldable pub part_of : Table → List ℕ
part_of t = t.start % 256 ∷ t.quantity ∷ []

-- the same of ST1, ST2 and the table itself: the input numbers in order (Request 12.2)
unfoldable pub parts_of : List ℕ → ℕ → List ℕ
parts_of area k =
    part_of (table_of area ((table_of area k).nibbles / 16)) ++ (part_of (table_of area ((table_of area k).nibbles % 16)) ++ part_of (table_of area k))

-- the plans of a table area: the outcomes of numbers 0 to 15, then their parts. No command asks for 0; it makes the outcomes sixteen
unfoldable pub plans_of : List ℕ → List ℕ → List ℕ
plans_of table area = gather (λ k. outcome_for table area k ∷ []) (up_from 0 16) ++ gather (parts_of area) (up_from 0 16)

-- those of empty tables, of which none is there to be scanned
unfoldable pub empty_plans : List ℕ
empty_plans = 0 ∷ (replicate 15 8 ++ replicate 96 0)

-- ---- plans used

-- a plan is one where its outcome is 0, 8 or 9: where any parts stand is bounded below
unfoldable pub planned : ℕ → Bool
planned o = eqb o 0 || (eqb o 8 || eqb o 9)

unfoldable pub plans_fit : List ℕ → Bool
plans_fit plans = every planned (part plans 0 16)

-- the numbers of part i of plan k, or those of them that are in the area
unfoldable pub planned_part : List ℕ → List ℕ → ℕ → ℕ → List ℕ
planned_part plans area k i = part area (get_or plans (16 + 6 * k + 2 * i) 0) (get_or plans (16 + 6 * k + 2 * i + 1) 0)

-- the numbers of plan k: a reply has 255 words at most (Scans 16)
unfoldable pub planned_numbers : List ℕ → List ℕ → ℕ → List ℕ
planned_numbers plans area k = take 255 (planned_part plans area k 0 ++ (planned_part plans area k 1 ++ planned_part plans area k 2))

-- the scan of table k by its plan (Request 12.3)
unfoldable pub planned_scan : List ℕ → List ℕ → List ℕ → ℕ → Scan
planned_scan plans area words k =
    cond (eqb (get_or plans k 0) 0)
    (tells (gather (word_in words) (planned_numbers plans area k)))
    (refuses (cond (eqb (get_or plans k 0) 9) TooLong NotValid))

-- function 0Ah by plans, the second engine beside tablesOf (Request 12.3, 12.4)
unfoldable pub planned_of : List ℕ → List ℕ → List ℕ → Request → Scan
planned_of plans fixed words q = table_asked (planned_scan plans (table_area fixed) words) q
