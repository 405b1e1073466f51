-- The data of function 0Ah fit a reply: at most 255 words.
-- Assumes nothing.
use mathlib.Core.Path.{◌≡◌}
use Prim.Native.Nat.{ℕ, ◌+◌, ◌*◌, ◌≤◌, zero-le}
use native.Mathlib.Omega.{arith}
use mathlib.Core.List.{List, ◌++◌}
use borrow.Author.Tests.{ltb-false}
use lib.Dec.{eqb, ltb}
use lib.ListN.{length, get_or, length-append}
use Rattle.chars.specs.Gather.{gather}
use Rattle.chars.proofs.PutLaws.{part-most}
use Rattle.chars.proofs.WordLaws.{length-word}
use Rattle.chars.proofs.GatherLaws.{gather-each}
use Rattle.model.specs.Frame.{Request}
use Rattle.model.specs.Config.{within}
use Rattle.model.specs.Tables.{table_numbers, word_in, send_of, table_scan, table_asked, tables_of}
use Rattle.model.specs.Plans.{planned_numbers, planned_scan, planned_of}
use Rattle.model.specs.declared.Table.{Table}
use Rattle.model.proofs.PlanLaws.{numbers-most}
use Rattle.tables.specs.Judged.{all_sendable}
use Rattle.points.proofs.Fits.{Fits, either, no_data_fits}

words_long : (words ns : List ℕ) → length (gather (word_in words) ns) ≡ 2 * length ns
unfolding word_in
words_long words ns = gather-each (word_in words) 2 (λ n. length-word (get_or words n 0)) ns

tables_short : (area : List ℕ) (one two own : Table)
    → length (table_numbers area one ++ (table_numbers area two ++ table_numbers area own)) ≤ one.quantity + two.quantity + own.quantity
tables_short area one two own =
    simp length-append (omega (
      arith,
      part-most area one.start one.quantity,
      part-most area two.start two.quantity,
      part-most area own.start own.quantity,
    ))

send_fits : (table area words : List ℕ) (one two own : Table) → Fits (send_of table area words one two own)
unfolding send_of
send_fits table area words one two own =
    either (all_sendable table area one two own) _ _
    (λ e. either (ltb 255 (one.quantity + two.quantity + own.quantity)) _ _ (λ f. zero-le)
    (λ f. omega (
      arith,
      ltb-false 255 (one.quantity + two.quantity + own.quantity) f,
      words_long words (table_numbers area one ++ (table_numbers area two ++ table_numbers area own)),
      tables_short area one two own,
    )))
    (λ e. zero-le)

pub tables_fit : (table fixed words : List ℕ) (q : Request) → Fits (tables_of table fixed words q)
unfolding tables_of table_asked table_scan
tables_fit table fixed words q =
    either (within 0x41 0x4F q.command) _ _ (λ e. no_data_fits q _ (send_fits table _ words _ _ _)) (λ e. zero-le)

-- by whatever plan
scan_fits : (plans area words : List ℕ) (k : ℕ) → Fits (planned_scan plans area words k)
unfolding planned_scan
scan_fits plans area words k =
    either (eqb (get_or plans k 0) 0) _ _
    (λ e. omega (arith, words_long words (planned_numbers plans area k), numbers-most plans area k))
    (λ e. zero-le)

pub planned_fit : (plans fixed words : List ℕ) (q : Request) → Fits (planned_of plans fixed words q)
unfolding planned_of table_asked
planned_fit plans fixed words q =
    either (within 0x41 0x4F q.command) _ _ (λ e. no_data_fits q _ (scan_fits plans _ words _)) (λ e. zero-le)
