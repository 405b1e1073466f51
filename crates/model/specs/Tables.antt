-- Function 0Ah: the tables of the table area, and the scan of one.
use Rattle.std.specs.Prelude.{ℕ, zero, suc, ◌+◌, ◌-◌, ◌/◌, ◌%◌, List, [], ◌∷◌, ◌++◌, Bool, true, false, cond, not, ◌&&◌, length, get_or, eqb, leb, ltb}
use Rattle.chars.specs.Put.{part}
use Rattle.chars.specs.Word.{word}
use Rattle.chars.specs.Gather.{gather, every}
use Rattle.model.specs.Frame.{Request}
use Rattle.model.specs.Config.{has, within}
use Rattle.model.specs.Scan.{Scan, tells, refuses, with_no_data}
use Rattle.model.specs.declared.Outcome.TheVariants.{Unknown, NotValid, TooLong}
use Rattle.model.specs.declared.Table.{Table}

-- a table stands at s: it is not 00 00, and its numbers end within the area (Scans 11, 12; paper 3.4.3)
unfoldable pub stands_at : List ℕ → ℕ → Bool
stands_at area s =
    leb (s + 2 + get_or area (s + 1) 0) (length area) && not (eqb (get_or area s 0) 0 && eqb (get_or area (s + 1) 0) 0)

-- the table that starts at s: present or not, its nibbles, where its numbers start, and how many they are (Scans 11)
unfoldable pub table_at : List ℕ → ℕ → Table
table_at area s =
    cond (stands_at area s)
    (record { present = true; nibbles = get_or area s 0; start = s + 2; quantity = get_or area (s + 1) 0 })
    (record { present = false; nibbles = 0; start = 0; quantity = 0 })

-- where the next table would start: behind a table that is present; else at the area's end, where none stands (Scans 12)
unfoldable pub end_of : List ℕ → Table → ℕ
end_of area t = cond t.present (t.start + t.quantity) (length area)

-- where the table after the first k would start
unfoldable pub start_of : List ℕ → ℕ → ℕ
start_of area zero = 0
start_of area (suc k) = end_of area (table_at area (start_of area k))

-- table number k, of 1 to 15; number 0 asks for none, and is there with no numbers (Scans 13)
unfoldable pub table_of : List ℕ → ℕ → Table
table_of area zero = record { present = true; nibbles = 0; start = 0; quantity = 0 }
table_of area (suc k) = table_at area (start_of area k)

-- the input numbers of a table
abbrev pub table_numbers : List ℕ → Table → List ℕ
table_numbers area t = part area t.start t.quantity

-- those of three tables in turn
abbrev pub numbers_in_turn : List ℕ → Table → Table → Table → List ℕ
numbers_in_turn area one two own = table_numbers area one ++ (table_numbers area two ++ table_numbers area own)

-- a table can be sent: it is present, and each of its numbers is equipped (Scans 15)
unfoldable pub sendable : List ℕ → List ℕ → Table → Bool
sendable table area t = t.present && every (has table) (table_numbers area t)

unfoldable pub word_in : List ℕ → ℕ → List ℕ
word_in words n = word (get_or words n 0)

-- the words of three tables in turn; not valid is judged before too long (Scans 13, 15 to 17)
unfoldable pub send_of : List ℕ → List ℕ → List ℕ → Table → Table → Table → Scan
send_of table area words one two own =
    cond (sendable table area own && (sendable table area one && sendable table area two))
    (cond (ltb 255 (one.quantity + two.quantity + own.quantity))
    (refuses TooLong)
    (tells (gather (word_in words) (numbers_in_turn area one two own))))
    (refuses NotValid)

-- the input numbers of a scan of table k, in reply order (Scans 13, 14)
unfoldable pub scan_numbers : List ℕ → ℕ → List ℕ
scan_numbers area k = numbers_in_turn area (table_of area ((table_of area k).nibbles / 16)) (table_of area ((table_of area k).nibbles % 16)) (table_of area k)

-- ST1, ST2 and the table itself: only the asked table's nibbles are followed (Scans 13, 14)
unfoldable pub table_scan : List ℕ → List ℕ → List ℕ → ℕ → Scan
table_scan table area words k =
    send_of table area words (table_of area ((table_of area k).nibbles / 16)) (table_of area ((table_of area k).nibbles % 16)) (table_of area k)

-- ordinal 03, the table area, in the fixed area (Write 1; paper 8.4)
unfoldable pub table_area : List ℕ → List ℕ
table_area fixed = part fixed 16 256

-- function 0Ah, commands 41h to 4Fh, by whichever scan of a table (Scans 9, 10)
unfoldable pub table_asked : (ℕ → Scan) → Request → Scan
table_asked scan q = cond (within 0x41 0x4F q.command) (with_no_data q (scan (q.command % 16))) (refuses Unknown)

-- by the plain reading of the tables
unfoldable pub tables_of : List ℕ → List ℕ → List ℕ → Request → Scan
tables_of table fixed words q = table_asked (table_scan table (table_area fixed) words) q
