-- Function 03, and the local event that sets a calculation value.
use Rattle.std.specs.Prelude.{ℕ, List, [], ◌∷◌, Bool, true, false, cond, length, get_or, set, eqb, leb}
use Rattle.chars.specs.Word.{value}
use Rattle.chars.specs.Gather.{gather, up_from}
use Rattle.model.specs.Limits.{most_data, most_asked}
use Rattle.model.specs.Frame.{Request}
use Rattle.model.specs.Config.{Config, within, has_calculation}
use Rattle.model.specs.Scan.{Scan, tells, refuses_with, refuses, with_no_data}
use Rattle.model.specs.Means.{value_settable}
use Rattle.model.specs.Inputs.{Changed, unchanged, changes}
use Rattle.model.specs.declared.Outcome.TheVariants.{Unknown, WrongCount, NotValid, TooLong}

-- data that fit a reply, or 9 (row 9)
unfoldable pub fitting : List ℕ → Scan
fitting ys = cond (leb (length ys) most_data) (tells ys) (refuses TooLong)

-- what a calculation number gives in 03/80h: its value where it is equipped (Scans 18, 23)
unfoldable pub value_of : List ℕ → List ℕ → ℕ → List ℕ
value_of table values n = cond (has_calculation table n) (value (get_or values n 0)) []

-- 03/80h (Scans 18, 19; paper 5.3)
unfoldable pub all_of : List ℕ → List ℕ → Scan
all_of table values = fitting (gather (value_of table values) (up_from 0 128))

-- what an asked number gives: itself and its value; and in a refusal: itself, where it is not equipped (Scans 21, 22)
unfoldable pub pair_of : List ℕ → ℕ → List ℕ
pair_of values n = n ∷ value (get_or values n 0)

unfoldable pub missing_of : List ℕ → ℕ → List ℕ
missing_of table n = cond (has_calculation table n) [] (n ∷ [])

-- 03/00 for the numbers ns: the unequipped come back, or number and value for each (Scans 21, 22; paper 5.4, 5.5)
unfoldable pub asked_of : List ℕ → List ℕ → List ℕ → Scan
asked_of table values ns =
    cond (eqb (length (gather (missing_of table) ns)) 0)
    (fitting (gather (pair_of values) ns))
    (refuses_with (gather (missing_of table) ns) NotValid)

-- function 03 (Scans 18 to 23)
unfoldable pub calculations_of : List ℕ → List ℕ → Request → Scan
calculations_of table values q =
    cond (eqb q.command 0x80) (with_no_data q (all_of table values))
    (cond (eqb q.command 0x00) (cond (within 1 most_asked (length q.body)) (asked_of table values q.body) (refuses WrongCount))
    (refuses Unknown))

-- a local event sets a calculation value that is no mean (Scans 3, 4; Request 4.9)
unfoldable pub set_value_of : Config → List ℕ → ℕ → ℕ → Changed
set_value_of c values n v = cond (value_settable c n) (changes [] (set values n v)) (unchanged NotValid values)
