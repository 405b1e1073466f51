-- Plans of any table area: each is one, and the scan by it is the plain reading's. Assumes nothing.
use mathlib.Core.Path.{◌≡◌, refl, sym, ap, ◌∙◌}
use Prim.Native.Nat.{ℕ, zero, suc, ◌+◌, ◌*◌, ◌/◌, ◌%◌, ◌≤◌, ◌<◌}
use native.Mathlib.Omega.{arith}
use native.Mathlib.Decide.{dec_lt}
use native.Mathlib.Nat.{mod-eq_of_lt, mul-le-mul_left}
use native.Mathlib.Numerals.{add-one}
use mathlib.Core.List.{List, [], ◌∷◌, ◌++◌}
use mathlib.Core.Bool.{true, cond, ◌&&◌}
use lib.ListN.{length, get_or, take, replicate, length-take, length-append, get_or-append}
use lib.Seq.{take_all, take-append_seam, get_or-append-add}
use lib.Dec.{eqb, ltb}
use borrow.Author.Tests.{leb-true, ltb-false}
use Rattle.chars.specs.Put.{part}
use Rattle.chars.specs.Gather.{gather, up_from, every}
use Rattle.chars.proofs.PutLaws.{part-most, part_none}
use Rattle.chars.proofs.GatherLaws.{up_next, length_up, gather-more, gather-each}
use Rattle.model.specs.Frame.{Request}
use Rattle.model.specs.Outcome.{number_of}
use Rattle.model.specs.Scan.{Scan, tells, refuses}
use Rattle.model.specs.Tables.{stands_at, table_at, end_of, start_of, table_of, table_numbers, sendable, word_in, send_of, scan_numbers, table_scan, table_area, table_asked, tables_of}
use Rattle.model.specs.Plans.{outcome_for, part_of, parts_of, plans_of, empty_plans, planned, plans_fit, planned_part, planned_numbers, planned_scan, planned_of}
use Rattle.model.specs.declared.Outcome.TheVariants.{NotValid, TooLong}
use Rattle.model.specs.declared.Table.{Table}
use Rattle.model.proofs.Conditions.{by_cond, by_bool, and_left, and_both}

-- ---- what a run of numbers gives, each as many characters, is found by its place

module _ (f : ℕ → List ℕ) (m : ℕ) (each : (k : ℕ) → length (f k) ≡ m) where
  run_long : (n : ℕ) → length (gather f (up_from 0 n)) ≡ m * n
  run_long n = gather-each f m each (up_from 0 n) ∙ ap (λ (x : ℕ). m * x) (length_up 0 n)

  run_more : (n : ℕ) → gather f (up_from 0 (suc n)) ≡ gather f (up_from 0 n) ++ f n
  run_more n = ap (λ (x : ℕ). gather f (up_from 0 x)) (sym (add-one n)) ∙ ap (gather f) (up_next n) ∙ gather-more f (up_from 0 n) n

  run_at : (n k i : ℕ) → k < n → i < m → get_or (gather f (up_from 0 n)) (m * k + i) 0 ≡ get_or (f k) i 0
  run_at zero k i h l = absurd (omega arith)
  run_at (suc n) k i h l =
      ap (λ (xs : List ℕ). get_or xs (m * k + i) 0) (run_more n)
      ∙ elim (dec_lt k n) [
        | yes g ↦
            let o : m * suc k ≤ m * n = mul-le-mul_left m g in
            get_or-append (gather f (up_from 0 n)) (f n) 0 (m * k + i) (omega (arith, run_long n)) ∙ run_at n k i g l
        | no g ↦
            let e : k ≡ n = omega arith in
            let d : m * k + i ≡ length (gather f (up_from 0 n)) + i = ap (λ (x : ℕ). m * x + i) e ∙ ap (λ (x : ℕ). x + i) (sym (run_long n)) in
            ap (λ (x : ℕ). get_or (gather f (up_from 0 n) ++ f n) x 0) d ∙ get_or-append-add (gather f (up_from 0 n)) (f n) i 0 ∙ ap (λ (x : ℕ). get_or (f x) i 0) (sym e)
      ]

-- ---- the characters of a plan

module _ (table area : List ℕ) where
  abbrev outcomes : List ℕ
  outcomes = gather (λ k. outcome_for table area k ∷ []) (up_from 0 16)

  outcomes_long : length outcomes ≡ 16
  outcomes_long = run_long (λ k. outcome_for table area k ∷ []) 1 (λ k. refl) 16

  parts_six : (k : ℕ) → length (parts_of area k) ≡ 6
  unfolding parts_of part_of
  parts_six k = refl

  pub plans-long : length (plans_of table area) ≡ 112
  unfolding plans_of
  plans-long = rw length-append (omega (arith, outcomes_long, run_long (parts_of area) 6 parts_six 16))

  outcome_at : (k : ℕ) → k < 16 → get_or (plans_of table area) k 0 ≡ outcome_for table area k
  unfolding plans_of
  outcome_at k h =
      let e : k ≡ 1 * k + 0 = omega arith in
      get_or-append outcomes (gather (parts_of area) (up_from 0 16)) 0 k (omega (arith, outcomes_long))
      ∙ ap (λ (x : ℕ). get_or outcomes x 0) e ∙ run_at (λ k. outcome_for table area k ∷ []) 1 (λ k. refl) 16 k 0 h (omega arith)

  part_at : (k i : ℕ) → k < 16 → i < 6 → get_or (plans_of table area) (16 + 6 * k + i) 0 ≡ get_or (parts_of area k) i 0
  unfolding plans_of
  part_at k i h l =
      let e : 16 + 6 * k + i ≡ length outcomes + (6 * k + i) = omega (arith, outcomes_long) in
      ap (λ (x : ℕ). get_or (plans_of table area) x 0) e ∙ get_or-append-add outcomes (gather (parts_of area) (up_from 0 16)) (6 * k + i) 0
      ∙ run_at (parts_of area) 6 parts_six 16 k i h l

-- those of tables of which every character is 0
pub plans-empty : (table : List ℕ) → plans_of table (table_area (replicate 528 0)) ≡ empty_plans
unfolding plans_of empty_plans outcome_for parts_of part_of table_area table_scan send_of sendable table_of table_at start_of end_of stands_at part gather up_from every
plans-empty table = refl

-- ---- each plan is one

module _ (table area : List ℕ) where
  send_planned : (one two own : Table) → planned (number_of (send_of table area [] one two own).outcome) ≡ true
  unfolding send_of planned
  send_planned one two own =
      by_cond (λ (r : Scan). planned (number_of r.outcome) ≡ true) (sendable table area own && (sendable table area one && sendable table area two))
      (λ e. by_cond (λ (r : Scan). planned (number_of r.outcome) ≡ true) (ltb 255 (one.quantity + two.quantity + own.quantity)) (λ e. refl) (λ e. refl))
      (λ e. refl)

  outcome-planned : (k : ℕ) → planned (outcome_for table area k) ≡ true
  unfolding outcome_for table_scan
  outcome-planned k = send_planned _ _ _

  every-planned : (ns : List ℕ) → every planned (gather (λ k. outcome_for table area k ∷ []) ns) ≡ true
  unfolding gather every
  every-planned [] = refl
  every-planned (n ∷ ns) = and_both (outcome-planned n) (every-planned ns)

  pub plans_fit_lem : plans_fit (plans_of table area) ≡ true
  unfolding plans_fit plans_of part
  plans_fit_lem =
      let front : take 16 (outcomes table area ++ gather (parts_of area) (up_from 0 16)) ≡ outcomes table area =
      ap (λ (n : ℕ). take n (outcomes table area ++ gather (parts_of area) (up_from 0 16))) (sym (outcomes_long table area)) ∙ take-append_seam _ _ in
      ap (every planned) front ∙ every-planned (up_from 0 16)

-- ---- a plan gives 255 numbers at most, whatever its characters

pub numbers-most : (plans area : List ℕ) (k : ℕ) → length (planned_numbers plans area k) ≤ 255
unfolding planned_numbers
numbers-most plans area k = simp length-take (omega arith)

-- ---- the numbers of a table, by its part

module _ (area : List ℕ) where
  at_inside : (s : ℕ) → (table_at area s).start + (table_at area s).quantity ≤ length area
  unfolding table_at stands_at
  at_inside s =
      by_cond (λ (t : Table). t.start + t.quantity ≤ length area) (stands_at area s)
      (λ e. leb-true (s + 2 + get_or area (s + 1) 0) (length area) (and_left _ _ e)) (λ e. omega arith)

  pub table_inside : (k : ℕ) → (table_of area k).start + (table_of area k).quantity ≤ length area
  unfolding table_of
  table_inside zero = omega arith
  table_inside (suc k) = at_inside (start_of area k)

  module _ (long : length area ≤ 256) where
    part_same : (t : Table) → t.start + t.quantity ≤ length area → part area (t.start % 256) t.quantity ≡ table_numbers area t
    part_same t h =
        elim (dec_lt t.start 256) [
          | yes l ↦ ap (λ (n : ℕ). part area n t.quantity) (mod-eq_of_lt l)
          | no l ↦
              let z : t.quantity ≡ 0 = omega arith in
              ap (part area (t.start % 256)) z ∙ part_none area _ ∙ sym (ap (part area t.start) z ∙ part_none area _)
        ]

-- ---- the two engines

module _ (table area words : List ℕ) (long : length area ≤ 256) (k : ℕ) (h : k < 16) where
  abbrev own : Table
  own = table_of area k

  abbrev one : Table
  one = table_of area (own.nibbles / 16)

  abbrev two : Table
  two = table_of area (own.nibbles % 16)

  part_is : (i : ℕ) (t : Table) → 2 * i + 1 < 6 → t.start + t.quantity ≤ length area → get_or (parts_of area k) (2 * i) 0 ≡ t.start % 256
      → get_or (parts_of area k) (2 * i + 1) 0 ≡ t.quantity → planned_part (plans_of table area) area k i ≡ table_numbers area t
  unfolding planned_part
  part_is i t l w e f =
      let n : 16 + 6 * k + 2 * i + 1 ≡ 16 + 6 * k + (2 * i + 1) = omega arith in
      rw (n, part_at table area k (2 * i) h (omega arith), part_at table area k (2 * i + 1) h l, e, f) (part_same area long t w)

  numbers_are : one.quantity + two.quantity + own.quantity ≤ 255
      → planned_numbers (plans_of table area) area k ≡ table_numbers area one ++ (table_numbers area two ++ table_numbers area own)
  unfolding planned_numbers parts_of part_of
  numbers_are l =
      rw (
        part_is 0 one (omega arith) (table_inside area _) refl refl,
        part_is 1 two (omega arith) (table_inside area _) refl refl,
        part_is 2 own (omega arith) (table_inside area _) refl refl,
      )
      (take_all 255 _ (rw (length-append, length-append)
      (omega (arith, part-most area one.start one.quantity, part-most area two.start two.quantity, part-most area own.start own.quantity))))

  -- by what was judged when the plan was made
  by_plan : (o : ℕ) → get_or (plans_of table area) k 0 ≡ o
      → planned_scan (plans_of table area) area words k
      ≡ cond (eqb o 0) (tells (gather (word_in words) (planned_numbers (plans_of table area) area k))) (refuses (cond (eqb o 9) TooLong NotValid))
  unfolding planned_scan
  by_plan o e = rw e

  outcome_is : get_or (plans_of table area) k 0 ≡ number_of (send_of table area [] one two own).outcome
  unfolding outcome_for table_scan
  outcome_is = outcome_at table area k h

  -- THE LAW: for all characters of the area, equipment and words, the scan by the plan is the plain reading's (Request 12.4)
  pub planned-plain : planned_scan (plans_of table area) area words k ≡ table_scan table area words k
  unfolding table_scan send_of
  planned-plain =
      let able = sendable table area own && (sendable table area one && sendable table area two) in
      let many = ltb 255 (one.quantity + two.quantity + own.quantity) in
      by_bool able
      (λ a. by_bool many
      (λ b. by_plan 9 (outcome_is ∙ rw (a, b)) ∙ sym (rw (a, b)))
      (λ b. by_plan 0 (outcome_is ∙ rw (a, b)) ∙ ap (λ (ns : List ℕ). tells (gather (word_in words) ns)) (numbers_are (ltb-false 255 _ b)) ∙ sym (rw (a, b))))
      (λ a. by_plan 8 (outcome_is ∙ rw a) ∙ sym (rw a))

  -- so a reply carries the same numbers, and the same groups of contacts start anew after it (Request 8.3)
  pub planned-carried : get_or (plans_of table area) k 0 ≡ 0 → planned_numbers (plans_of table area) area k ≡ scan_numbers area k
  unfolding scan_numbers send_of
  planned-carried z =
      by_bool (sendable table area own && (sendable table area one && sendable table area two))
      (λ a. by_bool (ltb 255 (one.quantity + two.quantity + own.quantity))
      (λ b. let n : get_or (plans_of table area) k 0 ≡ 9 = outcome_is ∙ rw (a, b) in absurd (omega arith)) (λ b. numbers_are (ltb-false 255 _ b)))
      (λ a. let n : get_or (plans_of table area) k 0 ≡ 8 = outcome_is ∙ rw a in absurd (omega arith))

pub area-most : (fixed : List ℕ) → length (table_area fixed) ≤ 256
unfolding table_area
area-most fixed = part-most fixed 16 256

-- the same of function 0Ah
pub planned_tables : (table fixed words : List ℕ) (q : Request) → planned_of (plans_of table (table_area fixed)) fixed words q ≡ tables_of table fixed words q
unfolding planned_of tables_of table_asked
planned_tables table fixed words q =
    rw (planned-plain table (table_area fixed) words (area-most fixed) (q.command % 16) (omega arith))
