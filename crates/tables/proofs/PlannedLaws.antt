-- Plans made of tables, and scans by them: what each step of the code comes to. Assumes nothing.
use mathlib.Core.Path.{◌≡◌, refl, sym, ap, subst, ◌∙◌}
use Prim.Native.Nat.{ℕ, zero, suc, ◌+◌, ◌*◌, ◌-◌, ◌/◌, ◌%◌, ◌≤◌, ◌<◌, min}
use native.Mathlib.Omega.{arith}
use native.Mathlib.Decide.{dec_lt}
use mathlib.Core.List.{List, [], ◌∷◌, ◌++◌}
use mathlib.Core.Bool.{Bool, true, false, cond, ◌&&◌}
use lib.ListN.{length, get_or, set, take, drop, length-take, length-drop}
use lib.Seq.{take_all, take-take, get_or-set_same, get_or-set_other}
use lib.Dec.{ltb}
use borrow.Author.Tests.{ne_eqb}
use Rattle.chars.specs.Put.{put, part}
use Rattle.chars.specs.Gather.{gather, up_from, Gathered}
use Rattle.chars.proofs.PutLaws.{put-none, put_one, put_all}
use Rattle.chars.proofs.WordLaws.{length-word}
use Rattle.chars.proofs.GatherLaws.{gather-each, gather-more, gathered_more, length_up, up_none, up_next}
use Rattle.model.specs.Limits.{reply_head}
use Rattle.model.specs.Scan.{tells, refuses}
use Rattle.model.specs.Outcome.{number_of}
use Rattle.model.specs.Tables.{table_of, sendable, word_in, send_of, table_scan, table_area}
use Rattle.model.specs.Plans.{outcome_for, part_of, parts_of, plans_of, planned_part, planned_numbers, planned_scan}
use Rattle.model.specs.declared.Outcome.{Outcome}
use Rattle.model.specs.declared.Outcome.TheVariants.{Done, NotValid, TooLong}
use Rattle.model.specs.declared.Table.{Table}
use Rattle.model.proofs.Conditions.{by_eqb}
use Rattle.layout.specs.Unit.{Unit, unit_sizes, plans_region, unit_in, put_plans_at, put_plans}
use Rattle.layout.proofs.UnitLaws.{put_in_lem, plans-put, plans-then}
use Rattle.tables.specs.Walked.{Passed, Found}
use Rattle.tables.specs.Able.{Able, reply_end, OutcomeOf}
use Rattle.tables.specs.declared.Parts.{Parts}

-- ---- a part of a plan, cut to what is in the area and to what is left

pub cut-part : (xs : List ℕ) (s n left m : ℕ) → m ≡ min (min n (length xs - s)) left → part xs s m ≡ take left (part xs s n)
unfolding part
cut-part xs s n left m e =
    let l = length-drop s xs in
    let k = length-take n (drop s xs) in
    elim (dec_lt left (min n (length xs - s))) [
      | yes h ↦ let d : m ≡ left = omega arith in rw d (sym (take-take left n (drop s xs) (omega arith)))
      | no h ↦
          let d : m ≡ min n (length xs - s) = omega arith in
          elim (dec_lt (length xs - s) n) [
            | yes g ↦
                let f : m ≡ length xs - s = omega arith in
                rw f (take_all (length xs - s) (drop s xs) (omega (arith, l))) ∙ sym (ap (take left) (take_all n (drop s xs) (omega (arith, l))) ∙ take_all left (drop s xs) (omega (arith, l)))
            | no g ↦ let f : m ≡ n = omega arith in rw f (sym (take_all left (take n (drop s xs)) (omega (arith, k))))
          ]
    ]

-- the same as it was written, where the part was read
pub cut-told : (f : ℕ → List ℕ) (area : List ℕ) {entry exit : List ℕ} {s n m to r : ℕ} (start quantity left : ℕ) → s ≡ start → n ≡ quantity
    → m ≡ min (min n (length area - s)) left → Gathered f (part area s m) entry to exit r → Gathered f (take left (part area start quantity)) entry to exit r
cut-told f area {entry} {exit} {s} {n} {m} {to} {r} start quantity left d e c g =
    subst (λ (ns : List ℕ). Gathered f ns entry to exit r) (cut-part area s n left m c ∙ (λ i. take left (part area (d i) (e i)))) g

-- so many of two lists in turn
take_split : (n : ℕ) (xs ys : List ℕ) → take n (xs ++ ys) ≡ take n xs ++ take (n - length (take n xs)) ys
take_split zero [] ys = refl
take_split zero (x ∷ xs) ys = refl
take_split (suc n) [] ys = let e : suc n ≡ suc n - 0 = omega arith in ap (λ (m : ℕ). take m ys) e
take_split (suc n) (x ∷ xs) ys =
    let e : suc n - length (x ∷ take n xs) ≡ n - length (take n xs) = omega arith in
    rw e (ap (λ (l : List ℕ). x ∷ l) (take_split n xs ys))

word_two : (words : List ℕ) (n : ℕ) → length (word_in words n) ≡ 2
unfolding word_in
word_two words n = length-word (get_or words n 0)

-- what is left of the reply behind a part of so many words
left_behind : (words ns : List ℕ) {entry exit : List ℕ} {from to : ℕ} → Gathered (word_in words) ns entry from exit to → to ≤ reply_end
    → (reply_end - to) / 2 ≡ (reply_end - from) / 2 - length ns
left_behind words ns g h = omega (arith, g.place, gather-each (word_in words) 2 (word_two words) ns)

-- the three parts, each in what the one before left
module _ (words area plans : List ℕ) (k : ℕ) where
  abbrev from : ℕ → List ℕ
  from at = part area (get_or plans at 0) (get_or plans (at + 1) 0)

  abbrev at : ℕ
  at = 16 + 6 * k

  parts_from : planned_numbers plans area k ≡ take 255 (from at ++ (from (at + 2) ++ from (at + 4)))
  unfolding planned_numbers planned_part
  parts_from =
      let e : 16 + 6 * k + 2 * 0 ≡ at = omega arith in
      let f : 16 + 6 * k + 2 * 1 ≡ at + 2 = omega arith in
      let g : 16 + 6 * k + 2 * 2 ≡ at + 4 = omega arith in
      λ i. take 255 (from (e i) ++ (from (f i) ++ from (g i)))

  pub numbers-told : {p : ℕ} {entry one two : List ℕ} {a b : ℕ} → p ≡ at → Gathered (word_in words) (take ((reply_end - reply_head) / 2) (from p)) entry reply_head one a
      → a ≤ reply_end → Gathered (word_in words) (take ((reply_end - a) / 2) (from (p + 2))) one a two b → b ≤ reply_end
      → planned_numbers plans area k
      ≡ take ((reply_end - reply_head) / 2) (from p) ++ (take ((reply_end - a) / 2) (from (p + 2)) ++ take ((reply_end - b) / 2) (from (p + 4)))
  numbers-told {a = a} e = rw e (λ g h f i.
      let A = from at in
      let l : (reply_end - a) / 2 ≡ 255 - length (take 255 A) = left_behind words _ g h in
      let m = left_behind words _ f i in
      parts_from ∙ take_split 255 A (from (at + 2) ++ from (at + 4))
      ∙ rw (m, l) (ap (λ (r : List ℕ). take 255 A ++ r) (take_split (255 - length (take 255 A)) (from (at + 2)) (from (at + 4)))))

-- ---- an answer by its plan

module _ (plans area words : List ℕ) (k : ℕ) {p : ℕ} where
  pub plan_told : get_or plans p 0 ≡ 0 → p ≡ k → planned_scan plans area words k ≡ tells (gather (word_in words) (planned_numbers plans area k))
  unfolding planned_scan
  plan_told z e = rw (← e, z)

  pub plan_long : (get_or plans p 0 ≡ 0 → ⊥) → get_or plans p 0 ≡ 9 → p ≡ k → planned_scan plans area words k ≡ refuses TooLong
  unfolding planned_scan
  plan_long z n e = rw (← e, n)

  pub plan_not-valid : (get_or plans p 0 ≡ 0 → ⊥) → (get_or plans p 0 ≡ 9 → ⊥) → p ≡ k → planned_scan plans area words k ≡ refuses NotValid
  unfolding planned_scan
  plan_not-valid z n e = rw (← e, ne_eqb (get_or plans p 0) 0 z, ne_eqb (get_or plans p 0) 9 n)

-- ---- which tables can be sent

pub able_none : (table area : List ℕ) (able : List Bool) → Able table area able 0
able_none table area able = record { judged = λ k h. absurd (omega arith) }

pub able_more : {table area : List ℕ} {able : List Bool} {n : ℕ} {b : Bool} → Able table area able n → n < length able → b ≡ sendable table area (table_of area n)
    → Able table area (set able n b) (n + 1)
able_more {able = able} {n = n} {b = b} a h e =
    record {
      judged = λ k l.
          by_eqb k n
          (λ d. rw d (get_or-set_same able n b false h ∙ e))
          (λ d. get_or-set_other able n k b false d ∙ a.judged k (omega arith));
    }

-- ---- the outcome of a plan, by what was judged of the three tables

-- by whether all three can be sent, and whether that is too long
abbrev pub outcome_by : Bool → Bool → Outcome
outcome_by sends long = cond sends (cond long TooLong Done) NotValid

ends : (sends long : Bool) (ys : List ℕ) → (cond sends (cond long (refuses TooLong) (tells ys)) (refuses NotValid)).outcome ≡ outcome_by sends long
ends true true ys = refl
ends true false ys = refl
ends false long ys = refl

module _ {table area : List ℕ} {able : List Bool} {k : ℕ} {t : Parts} (a : Able table area able 16) (f : Found area k t) (h : k < 16) (small : t.own.nibbles < 256) where
  sends : (n : ℕ) {x : Table} → n < 16 → x ≡ table_of area n → sendable table area x ≡ get_or able n false
  sends n l e = rw e (sym (a.judged n l))

  pub outcome_judged : outcome_for table area k
      ≡ number_of (outcome_by (get_or able k false && (get_or able (t.own.nibbles / 16) false && get_or able (t.own.nibbles % 16) false)) (ltb 255 (t.one.quantity + t.two.quantity + t.own.quantity)))
  unfolding outcome_for table_scan send_of
  outcome_judged =
      rw (← f.own) (rw (← f.one, ← f.two)
      (ap number_of (ends _ _ _) ∙ rw (sends k h f.own, sends (t.own.nibbles / 16) (omega arith) f.one, sends (t.own.nibbles % 16) (omega arith) f.two)))

-- the outcomes of the first n tables, laid in front of what stood there
abbrev pub Outcomes : List ℕ → List Bool → ℕ → List ℕ → List ℕ → Type 0
Outcomes area able n entry exit =
    (table : List ℕ) → Able table area able 16 → Gathered (λ k. outcome_for table area k ∷ []) (up_from 0 n) entry 0 exit n

pub outcomes_more : {area entry plans : List ℕ} {able : List Bool} {k o : ℕ} (t : Parts) → Outcomes area able k entry plans → Found area k t → OutcomeOf able t k o
    → Outcomes area able (k + 1) entry (set plans k o)
outcomes_more t g f w = λ table a. rw up_next (gathered_more (g table a) _ _ _ _ (ap (λ (n : ℕ). n ∷ []) (sym (w table _ a f))) (sym (put_one _ _ _)) refl)

-- ---- its parts

pub parts-found : {area : List ℕ} {k : ℕ} {t : Parts} → Found area k t → parts_of area k ≡ part_of t.one ++ (part_of t.two ++ part_of t.own)
unfolding parts_of
parts-found f = rw (f.one, f.two, f.own)

parts-each : (area : List ℕ) (k : ℕ) → length (parts_of area k) ≡ 6
unfolding parts_of part_of
parts-each area k = refl

-- the parts of one plan more, where plans leave the tables
pub tables_left : (u : List ℕ) (at : ℕ) (ps : List ℕ) {v : List ℕ} → at + length ps ≤ 112 → v ≡ put_plans_at u at ps → table_area (unit_in v).fixed ≡ table_area (unit_in u).fixed
tables_left u at ps h e = ap (λ (w : List ℕ). table_area (unit_in w).fixed) e ∙ ap (λ (x : Unit). table_area x.fixed) (plans-put u at ps h)

module _ (u : List ℕ) where
  abbrev tables : List ℕ
  tables = table_area (unit_in u).fixed

  parts_size : (k : ℕ) → length (gather (parts_of tables) (up_from 0 k)) ≡ 6 * k
  parts_size k = let w = gather-each (parts_of tables) 6 (parts-each tables) (up_from 0 k) in omega (arith, w, length_up 0 k)

  pub parts_none : u ≡ put_plans_at u 16 (gather (parts_of tables) (up_from 0 0))
  unfolding gather
  parts_none = rw up_none (sym (put_in_lem u plans_region 16 [] (unfold unit_sizes in omega arith) ∙ put-none u _))

  pub parts_leave : (k : ℕ) {v : List ℕ} → k ≤ 16 → v ≡ put_plans_at u 16 (gather (parts_of tables) (up_from 0 k)) → table_area (unit_in v).fixed ≡ tables
  parts_leave k h e = tables_left u 16 _ (omega (arith, parts_size k)) e

  pub parts_more : (k : ℕ) {v w : List ℕ} → k < 16 → v ≡ put_plans_at u 16 (gather (parts_of tables) (up_from 0 k))
      → w ≡ put_plans_at v (16 + 6 * k) (parts_of (table_area (unit_in v).fixed) k) → w ≡ put_plans_at u 16 (gather (parts_of tables) (up_from 0 (k + 1)))
  parts_more k {v} {w} h e f =
      let at = 16 + 6 * k in
      let g : w ≡ put_plans_at v at (parts_of tables k) = f ∙ ap (λ (area : List ℕ). put_plans_at v at (parts_of area k)) (parts_leave k (omega arith) e) in
      plans-then u v w 16 at (gather (parts_of tables) (up_from 0 k)) (parts_of tables k) (omega (arith, parts-each tables k)) e (omega (arith, parts_size k)) g
      ∙ ap (put_plans_at u 16) (sym (rw up_next (gather-more (parts_of tables) (up_from 0 k) k)))

  -- outcomes and parts together
  pub plans-joined : (table : List ℕ) {ps v w : List ℕ} → ps ≡ gather (λ k. outcome_for table tables k ∷ []) (up_from 0 16) → v ≡ put_plans_at u 0 ps
      → w ≡ put_plans_at v 16 (gather (parts_of (table_area (unit_in v).fixed)) (up_from 0 16)) → w ≡ put_plans u (plans_of table tables)
  unfolding plans_of
  plans-joined table {ps} {v} {w} p e f =
      let os = gather (λ k. outcome_for table tables k ∷ []) (up_from 0 16) in
      let n : length os ≡ 16 = let g = gather-each (λ k. outcome_for table tables k ∷ []) 1 (λ k. refl) (up_from 0 16) in omega (arith, g, length_up 0 16) in
      let d : v ≡ put_plans_at u 0 os = e ∙ ap (put_plans_at u 0) p in
      let g : w ≡ put_plans_at v 16 (gather (parts_of tables) (up_from 0 16)) =
      f ∙ ap (λ (area : List ℕ). put_plans_at v 16 (gather (parts_of area) (up_from 0 16))) (tables_left u 0 os (omega arith) d) in
      plans-then u v w 0 16 os (gather (parts_of tables) (up_from 0 16)) (omega (arith, parts_size 16)) d (omega arith) g

-- outcomes that fill what was lent for them
pub outcomes_all : (table area entry : List ℕ) {exit : List ℕ} → length entry ≡ 16
    → exit ≡ put entry 0 (gather (λ k. outcome_for table area k ∷ []) (up_from 0 16)) → exit ≡ gather (λ k. outcome_for table area k ∷ []) (up_from 0 16)
outcomes_all table area entry l e =
    let g = gather-each (λ k. outcome_for table area k ∷ []) 1 (λ k. refl) (up_from 0 16) in
    e ∙ put_all entry _ (omega (arith, g, length_up 0 16))

-- what is kept, and what comes of it, is of whatever comes to the same area
pub passed_same : {a b starts : List ℕ} {k : ℕ} → a ≡ b → Passed b starts k → Passed a starts k
passed_same e p = rw e p

pub outcomes_same : (table : List ℕ) {a b ps : List ℕ} → a ≡ b → ps ≡ gather (λ k. outcome_for table b k ∷ []) (up_from 0 16)
    → ps ≡ gather (λ k. outcome_for table a k ∷ []) (up_from 0 16)
outcomes_same table e f = rw e f

-- the same scan, of what comes to the same area
pub planned_same : (plans words : List ℕ) (k : ℕ) {a b : List ℕ} → a ≡ b → planned_scan plans a words k ≡ planned_scan plans b words k
planned_same plans words k e = λ i. planned_scan plans (e i) words k
