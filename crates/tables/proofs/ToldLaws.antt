-- The groups of contacts that the reply to a scan of a table carried. Assumes nothing.
use mathlib.Core.Path.{◌≡◌, refl, ap, subst, ◌∙◌}
use Prim.Native.Nat.{ℕ, ◌+◌, ◌/◌, ◌%◌, ◌≤◌, ◌<◌}
use native.Mathlib.Omega.{arith}
use mathlib.Core.List.{List, ◌++◌}
use lib.ListN.{length, get_or, drop, length-take}
use Rattle.chars.specs.Put.{part}
use Rattle.chars.specs.Gather.{gather}
use Rattle.chars.proofs.PutLaws.{length_part, part-more}
use Rattle.model.specs.Contacts.{group_in}
use Rattle.model.specs.Tables.{table_of, table_numbers, table_area, scan_numbers}
use Rattle.model.specs.declared.Table.{Table}
use Rattle.layout.specs.Unit.{unit_long, unit_in, config_in}
use Rattle.layout.specs.Contacts.{Anew}
use Rattle.layout.proofs.ContactLaws.{anew-none}
use Rattle.points.proofs.AnewLaws.{groups_of, anew-fixed, anew-joined, anew-more}
use Rattle.tables.specs.Judged.{Within}
use Rattle.tables.specs.Walked.{area_long}
use Rattle.tables.proofs.TableLaws.{fixed-long}

-- the table area of a unit
abbrev pub area_of : List ℕ → List ℕ
area_of u = table_area (unit_in u).fixed

area-long : (u : List ℕ) → length u ≡ unit_long → length (area_of u) ≡ area_long
unfolding table_area
area-long u l = length_part (unit_in u).fixed 16 256 (omega (arith, fixed-long u _ l refl))

-- the numbers of a table that was found lie in it
pub numbers-within : (u : List ℕ) {t : Table} → Within (area_of u) t → t.start + t.quantity ≤ area_long
unfolding table_area part
numbers-within u w = omega (arith, w.inside, length-take 256 (drop 16 (unit_in u).fixed))

-- the groups among the first i numbers from an index on
pub numbers-none : (u : List ℕ) (from : ℕ) → Anew u u (groups_of u (part (area_of u) from 0))
unfolding part gather
numbers-none u from = anew-none u

pub numbers_more : (u v w : List ℕ) (from i : ℕ) {n : ℕ} → length u ≡ unit_long → from + i < area_long → Anew u v (groups_of u (part (area_of u) from i))
    → n ≡ get_or (area_of v) (from + i) 0 → Anew v w (group_in (config_in v).inputs n) → Anew u w (groups_of u (part (area_of u) from (i + 1)))
numbers_more u v w from i l h a e b =
    let f : get_or (area_of v) (from + i) 0 ≡ get_or (area_of u) (from + i) 0 = ap (λ (x : List ℕ). get_or (table_area x) (from + i) 0) (anew-fixed a) in
    rw (part-more (area_of u) from i (omega (arith, area-long u l)))
    (anew-more u v w _ _ a (subst (λ (m : ℕ). Anew v w (group_in (config_in v).inputs m)) (e ∙ f) b))

-- ST1, ST2 and the table itself, in turn
pub parts-anew : (u v w x : List ℕ) (k : ℕ) {one two own : Table}
    → own ≡ table_of (area_of u) k → one ≡ table_of (area_of u) (own.nibbles / 16) → two ≡ table_of (area_of u) (own.nibbles % 16)
    → Anew u v (groups_of u (table_numbers (area_of u) one)) → Anew v w (groups_of v (table_numbers (area_of v) two)) → Anew w x (groups_of w (table_numbers (area_of w) own))
    → Anew u x (groups_of u (scan_numbers (area_of u) k))
unfolding scan_numbers
parts-anew u v w x k {one} {two} {own} e f g a b d =
    let p : area_of v ≡ area_of u = ap table_area (anew-fixed a) in
    let q : area_of w ≡ area_of u = ap table_area (anew-fixed b) ∙ p in
    let b' = subst (λ (r : List ℕ). Anew v w (groups_of v (table_numbers r two))) p b in
    let d' = subst (λ (r : List ℕ). Anew w x (groups_of w (table_numbers r own))) q d in
    subst (λ (t : Table). Anew u x (groups_of u (table_numbers (area_of u) (table_of (area_of u) (t.nibbles / 16)) ++ (table_numbers (area_of u) (table_of (area_of u) (t.nibbles % 16)) ++ table_numbers (area_of u) t)))) e
    (subst (λ (t : Table). Anew u x (groups_of u (table_numbers (area_of u) t ++ (table_numbers (area_of u) (table_of (area_of u) (own.nibbles % 16)) ++ table_numbers (area_of u) own)))) f
    (subst (λ (t : Table). Anew u x (groups_of u (table_numbers (area_of u) one ++ (table_numbers (area_of u) t ++ table_numbers (area_of u) own)))) g
    (anew-joined u v x _ _ a (anew-joined v w x _ _ b' d'))))

-- table number 0 names no numbers
pub none-anew : (u : List ℕ) (k : ℕ) → k ≡ 0 → Anew u u (groups_of u (scan_numbers (area_of u) k))
unfolding scan_numbers table_of part gather
none-anew u k e = rw e (anew-none u)
