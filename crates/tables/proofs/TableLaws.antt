-- Tables of the table area and the scan of one: what each step of the code comes to.
-- Assumes nothing.
use mathlib.Core.Path.{◌≡◌, refl, ap, ◌∙◌}
use Prim.Native.Nat.{ℕ, zero, suc, ◌+◌, ◌-◌, ◌/◌, ◌%◌, ◌≤◌, ◌<◌}
use native.Mathlib.Nat.{add-zero, add-suc}
use native.Mathlib.Numerals.{add-one}
use native.Mathlib.Omega.{arith}
use mathlib.Core.List.{List, [], ◌∷◌, ◌++◌}
use Rattle.std.specs.List.{list_all}
use mathlib.Core.Bool.{Bool, true, false, ◌&&◌}
use borrow.Author.Tests.{leb-true, le-leb, lt-leb, lt-ltb, le-ltb}
use lib.Dec.{lit<}
use lib.ListN.{length, get_or}
use Rattle.chars.specs.Word.{word}
use Rattle.chars.specs.Gather.{gather, every}
use Rattle.model.specs.Frame.{Request}
use Rattle.model.specs.Config.{within}
use Rattle.model.specs.Scan.{Scan, Fills, tells, refuses, with_no_data}
use Rattle.model.specs.Tables.{stands_at, table_at, end_of, start_of, table_of, table_numbers, word_in, send_of, table_scan, table_asked}
use Rattle.model.specs.declared.Outcome.TheVariants.{NotValid, TooLong}
use Rattle.model.specs.declared.Table.{Table}
use Rattle.model.specs.declared.Filled.{Filled}
use Rattle.layout.specs.Unit.{unit_sizes, unit_long, fixed_region, plans_region, unit_from, unit_in}
use Rattle.layout.proofs.UnitLaws.{region_size}
use Rattle.tables.specs.Judged.{all_sendable}
use Rattle.model.proofs.Conditions.{and_left}

-- ---- a table at a place

module _ (area : List ℕ) (s : ℕ) where
  pub stands-short : length area < s + 2 + get_or area (s + 1) 0 → stands_at area s ≡ false
  unfolding stands_at
  stands-short h = simp (lt-leb _ _ h)

  pub stands-fits : stands_at area s ≡ true → s + 2 + get_or area (s + 1) 0 ≤ length area
  unfolding stands_at
  stands-fits e = leb-true _ _ (and_left _ _ e)

  pub table_present : stands_at area s ≡ true
      → table_at area s ≡ record { present = true; nibbles = get_or area s 0; start = s + 2; quantity = get_or area (s + 1) 0 }
  unfolding table_at
  table_present e = simp e

  pub table_absent : stands_at area s ≡ false → table_at area s ≡ record { present = false; nibbles = 0; start = 0; quantity = 0 }
  unfolding table_at
  table_absent e = simp e

-- ---- a table by its number

pub start_none : (area : List ℕ) → start_of area 0 ≡ 0
unfolding start_of
start_none area = refl

start-suc : (area : List ℕ) (k : ℕ) → start_of area (suc k) ≡ end_of area (table_at area (start_of area k))
unfolding start_of
start-suc area k = refl

-- a table that is there: the next starts behind its numbers
pub start-next : (area : List ℕ) (k : ℕ) {t : Table} → t ≡ table_at area (start_of area k) → t.present ≡ true → start_of area (k + 1) ≡ t.start + t.quantity
unfolding end_of
start-next area k e h = rw add-one (start-suc area k ∙ rw (← e) (rw h))

-- a table that is not: none stands at the area's end, so all after it are absent too
end_absent : (area : List ℕ) (s : ℕ) → (table_at area s).present ≡ false → end_of area (table_at area s) ≡ length area
unfolding end_of
end_absent area s h = rw h

at_end : (area : List ℕ) → (table_at area (length area)).present ≡ false
at_end area = ap (λ (t : Table). t.present) (table_absent area (length area) (stands-short area (length area) (omega arith)))

ended : (area : List ℕ) (k d : ℕ) → (table_at area (start_of area k)).present ≡ false → start_of area (suc (k + d)) ≡ length area
ended area k zero h = rw (add-zero, start-suc) (end_absent area (start_of area k) h)
ended area k (suc d) h = rw (add-suc, start-suc, ended area k d h) (end_absent area (length area) (at_end area))

pub start-ended : (area : List ℕ) (j k : ℕ) {t : Table} → t ≡ table_at area (start_of area j) → t.present ≡ false → j < k → start_of area k ≡ length area
start-ended area j k e h l =
    let d : suc (j + (k - suc j)) ≡ k = omega arith in
    rw (← d) (ended area j (k - suc j) (rw (← e) h))

pub none_after : (area : List ℕ) (j k : ℕ) → (table_at area (start_of area j)).present ≡ false → j < k → (table_at area (start_of area k)).present ≡ false
none_after area j k h l = rw (start-ended area j k refl h l) (at_end area)

pub table_more : (area : List ℕ) (k : ℕ) → 0 < k → table_of area k ≡ table_at area (start_of area (k - 1))
unfolding table_of
table_more area zero h = absurd (omega arith)
table_more area (suc k) h = let e : suc k - 1 ≡ k = omega arith in rw e

-- the test of each number, in the library's word
pub every-all : (f : ℕ → Bool) (ns : List ℕ) → every f ns ≡ list_all f ns
unfolding every
every-all f [] = refl
every-all f (n ∷ ns) = ap (λ (b : Bool). f n && b) (every-all f ns)

pub word_in_lem : (words : List ℕ) (n : ℕ) {v : ℕ} → v ≡ get_or words n 0 → word_in words n ≡ word v
unfolding word_in
word_in_lem words n e = simp e

-- ---- the answer, by what was judged

module _ (table area words : List ℕ) (one two own : Table) where
  pub send_not-valid : all_sendable table area one two own ≡ false
      → send_of table area words one two own ≡ refuses NotValid
  unfolding send_of
  send_not-valid e = simp e

  pub send_too_long : all_sendable table area one two own ≡ true
      → 255 < one.quantity + two.quantity + own.quantity → send_of table area words one two own ≡ refuses TooLong
  unfolding send_of
  send_too_long e h = simp (e, lt-ltb _ _ h)

  pub send_done : all_sendable table area one two own ≡ true
      → one.quantity + two.quantity + own.quantity ≤ 255
      → send_of table area words one two own ≡ tells (gather (word_in words) (table_numbers area one ++ (table_numbers area two ++ table_numbers area own)))
  unfolding send_of
  send_done e h = simp (e, le-ltb _ _ h)

pub scan_fills : (table area words : List ℕ) (k : ℕ) {one two own : Table} {entry exit : List ℕ} {r : Filled}
    → one ≡ table_of area (own.nibbles / 16) → two ≡ table_of area (own.nibbles % 16) → own ≡ table_of area k
    → Fills entry exit (send_of table area words one two own) r → Fills entry exit (table_scan table area words k) r
unfolding table_scan
scan_fills table area words k e f g a = rw (e, f, g) at a

-- the fixed area as it was lent has the table area in it
pub fixed-long : (u fixed : List ℕ) → length u ≡ unit_long → fixed ≡ (unit_in u).fixed → length fixed ≡ 528
unfolding unit_from unit_sizes
fixed-long u fixed l e = ap length e ∙ region_size u l fixed_region (lit< tt)

-- the plans as they were lent
pub plans_lent : (u plans : List ℕ) → length u ≡ unit_long → plans ≡ (unit_in u).plans → length plans ≡ 112
unfolding unit_from unit_sizes
plans_lent u plans l e = ap length e ∙ region_size u l plans_region (lit< tt)

-- ---- a request for a table, by whichever scan: its number as a difference

pub asked-known : (scan : ℕ → Scan) (q : Request) → 0x41 ≤ q.command → q.command ≤ 0x4F → table_asked scan q ≡ with_no_data q (scan (q.command - 0x40))
unfolding table_asked within
asked-known scan q h k =
    let e : q.command % 16 ≡ q.command - 0x40 = omega arith in
    rw (le-leb 0x41 q.command h, le-leb q.command 0x4F k, e)
