-- A scan of a table follows that table's nibbles and no other's. Assumes nothing.
use Prim.Native.Nat.{ℕ, zero, suc, ◌+◌, ◌-◌, ◌/◌, ◌%◌, ◌≤◌, ◌<◌}
use mathlib.Core.Path.{◌≡◌, refl, sym, ap, ap₂, ◌∙◌}
use mathlib.Core.Logic.{◌⊎◌, inl, inr}
use mathlib.Core.List.{List, [], ◌∷◌}
use mathlib.Core.Bool.{Bool, true, false, ◌&&◌}
use lib.ListN.{length, get_or, set, length-set}
use lib.Seq.{get_or-set_other}
use lib.Dec.{eqb, ltb}
use native.Mathlib.Nat.{zero-add, suc-add}
use native.Mathlib.Omega.{arith}
use borrow.Author.Tests.{leb-true, ltb-true, ltb-false, eqb-true, eqb-false}
use Rattle.chars.specs.Put.{part}
use Rattle.chars.specs.Gather.{every}
use Rattle.chars.proofs.PutLaws.{put_one, part-put-before, part-put-after}
use Rattle.model.specs.Config.{has}
use Rattle.model.specs.Tables.{stands_at, table_at, end_of, start_of, table_of, table_numbers, sendable, send_of, table_scan}
use Rattle.model.specs.Laws.{SeenAlike}
use Rattle.model.specs.declared.Table.{Table}
use Rattle.model.proofs.Conditions.{by_bool, and_left}

module _ (table xs ys words : List ℕ) (k : ℕ) (s : SeenAlike xs ys k) where
  sendable-alike : (j : ℕ) → sendable table xs (table_of xs j) ≡ sendable table ys (table_of ys j)
  unfolding sendable
  sendable-alike j = ap₂ (λ (b : Bool) (ns : List ℕ). b && every (has table) ns) (s.present j) (s.numbers j)

  sent-alike : (i j : ℕ) → send_of table xs words (table_of xs i) (table_of xs j) (table_of xs k) ≡ send_of table ys words (table_of ys i) (table_of ys j) (table_of ys k)
  unfolding send_of
  sent-alike i j =
      cc
      (sendable-alike i, sendable-alike j, sendable-alike k, s.quantity i, s.quantity j, s.quantity k, s.numbers i, s.numbers j, s.numbers k)

  -- whatever the nibbles of the tables that it reaches are
  pub one_level : table_scan table xs words k ≡ table_scan table ys words k
  unfolding table_scan
  one_level =
      ap (λ (n : ℕ). send_of table xs words (table_of xs (n / 16)) (table_of xs (n % 16)) (table_of xs k)) s.nibbles
      ∙ sent-alike ((table_of ys k).nibbles / 16) ((table_of ys k).nibbles % 16)

-- ---- the characters: any nibbles in a table that stays present are nibbles of the same tables

module _ (xs : List ℕ) where
  start-next : (i : ℕ) → start_of xs (suc i) ≡ end_of xs (table_at xs (start_of xs i))
  unfolding start_of
  start-next i = refl

  module _ (p : ℕ) where
    stands-fits : stands_at xs p ≡ true → p + 2 + get_or xs (p + 1) 0 ≤ length xs
    unfolding stands_at
    stands-fits e = leb-true _ _ (and_left _ _ e)

    next-stands : stands_at xs p ≡ true → end_of xs (table_at xs p) ≡ p + 2 + get_or xs (p + 1) 0
    unfolding end_of table_at
    next-stands e = simp e

    next-none : stands_at xs p ≡ false → end_of xs (table_at xs p) ≡ length xs
    unfolding end_of table_at
    next-none e = simp e

  start_in_lem : (i : ℕ) → start_of xs i ≤ length xs
  start_in_lem zero = unfold start_of in omega arith
  start_in_lem (suc i) =
      let p = start_of xs i in
      by_bool (stands_at xs p)
      (λ e. omega (arith, start-next i, next-stands p e, stands-fits p e))
      (λ e. omega (arith, start-next i, next-none p e))

  start_grows : (i : ℕ) → start_of xs i ≤ start_of xs (suc i)
  start_grows i =
      let p = start_of xs i in
      by_bool (stands_at xs p) (λ e. omega (arith, start-next i, next-stands p e)) (λ e. omega (arith, start-next i, next-none p e, start_in_lem i))

  start-later : (i d : ℕ) → start_of xs i ≤ start_of xs (d + i)
  start-later i zero = omega (arith, ap (start_of xs) (zero-add i))
  start-later i (suc d) = omega (arith, ap (start_of xs) (suc-add d i), start-later i d, start_grows (d + i))

  -- a table that is present lies behind those before it, and before those behind it
  module _ (j : ℕ) (stands : stands_at xs (start_of xs j) ≡ true) where
    ends-before : (i : ℕ) → i < j → start_of xs i + 2 + get_or xs (start_of xs i + 1) 0 ≤ start_of xs j
    ends-before i h =
        let p = start_of xs i in
        let e : (j - suc i) + suc i ≡ j = omega arith in
        let g : start_of xs (suc i) ≤ start_of xs j = rw e at (start-later (suc i) (j - suc i)) in
        by_bool (stands_at xs p)
        (λ e. omega (arith, start-next i, next-stands p e, g))
        (λ e. absurd (omega (arith, start-next i, next-none p e, g, stands-fits (start_of xs j) stands)))

    starts_behind : (i : ℕ) → j < i → start_of xs j + 2 ≤ start_of xs i
    starts_behind i h =
        let e : (i - suc j) + suc j ≡ i = omega arith in
        let g : start_of xs (suc j) ≤ start_of xs i = rw e at (start-later (suc j) (i - suc j)) in
        omega (arith, start-next j, next-stands (start_of xs j) stands, g)

-- what a table at a place is
module _ (xs : List ℕ) (p : ℕ) where
  present_at : stands_at xs p ≡ true → (table_at xs p).present ≡ true
  unfolding table_at
  present_at e = simp e

  quantity_at : stands_at xs p ≡ true → (table_at xs p).quantity ≡ get_or xs (p + 1) 0
  unfolding table_at
  quantity_at e = simp e

  numbers_at : stands_at xs p ≡ true → table_numbers xs (table_at xs p) ≡ part xs (p + 2) (get_or xs (p + 1) 0)
  unfolding table_at
  numbers_at e = simp e

  numbers-none : stands_at xs p ≡ false → table_numbers xs (table_at xs p) ≡ []
  unfolding table_at part
  numbers-none e = simp e

-- table j + 1 has other nibbles
abbrev renamed : List ℕ → ℕ → ℕ → List ℕ
renamed xs j y = set xs (start_of xs j) y

module _ (xs : List ℕ) (j y : ℕ) (stands : stands_at xs (start_of xs j) ≡ true) (stays : stands_at (renamed xs j y) (start_of xs j) ≡ true) where
  clear : (i : ℕ) → (i ≡ j → ⊥) → (start_of xs i + 2 + get_or xs (start_of xs i + 1) 0 ≤ start_of xs j) ⊎ (start_of xs j + 2 ≤ start_of xs i)
  clear i n =
      by_bool (ltb i j) (λ e. inl (ends-before xs j stands i (ltb-true i j e)))
      (λ e. let h = ltb-false i j e in let k : j < i = omega arith in inr (starts_behind xs j stands i k))

  away : (i k : ℕ) → k < 2 → (i ≡ j → ⊥) → start_of xs i + k ≡ start_of xs j → ⊥
  away i k b n e = go (clear i n)
    where
      go : (start_of xs i + 2 + get_or xs (start_of xs i + 1) 0 ≤ start_of xs j) ⊎ (start_of xs j + 2 ≤ start_of xs i) → ⊥
      go (inl h) = omega arith
      go (inr h) = omega arith

  other : (i k : ℕ) → k < 2 → (i ≡ j → ⊥) → get_or (renamed xs j y) (start_of xs i + k) 0 ≡ get_or xs (start_of xs i + k) 0
  other i k b n = get_or-set_other xs (start_of xs j) (start_of xs i + k) y 0 (away i k b n)

  head-same : (i : ℕ) → (i ≡ j → ⊥) → get_or (renamed xs j y) (start_of xs i) 0 ≡ get_or xs (start_of xs i) 0
  head-same i n = get_or-set_other xs (start_of xs j) (start_of xs i) y 0 (λ e. away i 0 (omega arith) n (omega (arith, e)))

  -- a part that the changed character does not lie in
  part_same : (base size : ℕ) → (base + size ≤ start_of xs j) ⊎ (start_of xs j + 1 ≤ base) → part (renamed xs j y) base size ≡ part xs base size
  part_same base size (inl h) =
      ap (λ (zs : List ℕ). part zs base size) (sym (put_one xs (start_of xs j) y)) ∙ part-put-before xs (start_of xs j) (y ∷ []) base size h
  part_same base size (inr h) =
      ap (λ (zs : List ℕ). part zs base size) (sym (put_one xs (start_of xs j) y)) ∙ part-put-after xs (start_of xs j) (y ∷ []) base size h

  numbers_clear : (i : ℕ) → (i ≡ j → ⊥)
      → (start_of xs i + 2 + get_or xs (start_of xs i + 1) 0 ≤ start_of xs j) ⊎ (start_of xs j + 1 ≤ start_of xs i + 2)
  numbers_clear i n = go (clear i n)
    where
      go : (start_of xs i + 2 + get_or xs (start_of xs i + 1) 0 ≤ start_of xs j) ⊎ (start_of xs j + 2 ≤ start_of xs i)
          → (start_of xs i + 2 + get_or xs (start_of xs i + 1) 0 ≤ start_of xs j) ⊎ (start_of xs j + 1 ≤ start_of xs i + 2)
      go (inl h) = inl h
      go (inr h) = let k : start_of xs j + 1 ≤ start_of xs i + 2 = omega arith in inr k

  -- every other table is the same
  stands_same : (i : ℕ) → (i ≡ j → ⊥) → stands_at (renamed xs j y) (start_of xs i) ≡ stands_at xs (start_of xs i)
  unfolding stands_at
  stands_same i n = rw (length-set xs (start_of xs j) y, head-same i n, other i 1 (omega arith) n)

  table_same : (i : ℕ) → (i ≡ j → ⊥) → table_at (renamed xs j y) (start_of xs i) ≡ table_at xs (start_of xs i)
  unfolding table_at
  table_same i n = rw (stands_same i n, head-same i n, other i 1 (omega arith) n)

  count_same : get_or (renamed xs j y) (start_of xs j + 1) 0 ≡ get_or xs (start_of xs j + 1) 0
  count_same = get_or-set_other xs (start_of xs j) (start_of xs j + 1) y 0 (λ e. omega (arith, e))

  end_same : (t : Table) → end_of (renamed xs j y) t ≡ end_of xs t
  unfolding end_of
  end_same t = rw (length-set xs (start_of xs j) y)

  next-same : (i : ℕ) → end_of (renamed xs j y) (table_at (renamed xs j y) (start_of xs i)) ≡ end_of xs (table_at xs (start_of xs i))
  next-same i =
      by_bool (eqb i j)
      (λ e.
      rw (eqb-true i j e)
      (next-stands (renamed xs j y) (start_of xs j) stays ∙ ap (λ (n : ℕ). start_of xs j + 2 + n) count_same ∙ sym (next-stands xs (start_of xs j) stands)))
      (λ e. ap (end_of (renamed xs j y)) (table_same i (eqb-false i j e)) ∙ end_same (table_at xs (start_of xs i)))

  start-same : (i : ℕ) → start_of (renamed xs j y) i ≡ start_of xs i
  start-same zero = unfold start_of in refl
  start-same (suc i) =
      start-next (renamed xs j y) i
      ∙ ap (λ (p : ℕ). end_of (renamed xs j y) (table_at (renamed xs j y) p)) (start-same i)
      ∙ next-same i
      ∙ sym (start-next xs i)

  -- a property of tables that the tables of both areas share, by their numbers
  by_table : {A : Type 0} (f : List ℕ → Table → A) → f (renamed xs j y) (table_of (renamed xs j y) 0) ≡ f xs (table_of xs 0)
      → ((i : ℕ) → (i ≡ j → ⊥) → f (renamed xs j y) (table_at (renamed xs j y) (start_of xs i)) ≡ f xs (table_at xs (start_of xs i)))
      → f (renamed xs j y) (table_at (renamed xs j y) (start_of xs j)) ≡ f xs (table_at xs (start_of xs j))
      → (n : ℕ) → f (renamed xs j y) (table_of (renamed xs j y) n) ≡ f xs (table_of xs n)
  unfolding table_of
  by_table f none others own zero = none
  by_table f none others own (suc i) =
      ap (λ (p : ℕ). f (renamed xs j y) (table_at (renamed xs j y) p)) (start-same i)
      ∙ by_bool (eqb i j) (λ e. rw (eqb-true i j e) own) (λ e. others i (eqb-false i j e))

  numbers-same : (i : ℕ) → (i ≡ j → ⊥)
      → table_numbers (renamed xs j y) (table_at (renamed xs j y) (start_of xs i)) ≡ table_numbers xs (table_at xs (start_of xs i))
  numbers-same i n =
      by_bool (stands_at xs (start_of xs i))
      (λ e.
      numbers_at (renamed xs j y) (start_of xs i) (stands_same i n ∙ e)
      ∙ ap (part (renamed xs j y) (start_of xs i + 2)) (other i 1 (omega arith) n)
      ∙ part_same (start_of xs i + 2) (get_or xs (start_of xs i + 1) 0) (numbers_clear i n)
      ∙ sym (numbers_at xs (start_of xs i) e))
      (λ e. numbers-none (renamed xs j y) (start_of xs i) (stands_same i n ∙ e) ∙ sym (numbers-none xs (start_of xs i) e))

  own-numbers : table_numbers (renamed xs j y) (table_at (renamed xs j y) (start_of xs j)) ≡ table_numbers xs (table_at xs (start_of xs j))
  own-numbers =
      let k : start_of xs j + 1 ≤ start_of xs j + 2 = omega arith in
      numbers_at (renamed xs j y) (start_of xs j) stays
      ∙ ap (part (renamed xs j y) (start_of xs j + 2)) count_same
      ∙ part_same (start_of xs j + 2) (get_or xs (start_of xs j + 1) 0) (inr k)
      ∙ sym (numbers_at xs (start_of xs j) stands)

  other-nibbles : (k : ℕ) → (k ≡ suc j → ⊥) → (table_of (renamed xs j y) k).nibbles ≡ (table_of xs k).nibbles
  unfolding table_of
  other-nibbles zero n = refl
  other-nibbles (suc i) n =
      ap (λ (p : ℕ). (table_at (renamed xs j y) p).nibbles) (start-same i)
      ∙ ap (λ (t : Table). t.nibbles) (table_same i (λ e. n (ap suc e)))

  -- so a scan of any other table is the same, whether it reaches this one or not
  pub nibbles_unseen : (table words : List ℕ) (k : ℕ) → (k ≡ suc j → ⊥) → table_scan table (renamed xs j y) words k ≡ table_scan table xs words k
  nibbles_unseen table words k n =
      one_level table (renamed xs j y) xs words k
      (record {
        present = by_table (λ zs t. t.present) (unfold table_of in refl) (λ i m. ap (λ (t : Table). t.present) (table_same i m))
            (present_at (renamed xs j y) (start_of xs j) stays ∙ sym (present_at xs (start_of xs j) stands));
        quantity = by_table (λ zs t. t.quantity) (unfold table_of in refl) (λ i m. ap (λ (t : Table). t.quantity) (table_same i m))
            (quantity_at (renamed xs j y) (start_of xs j) stays ∙ count_same ∙ sym (quantity_at xs (start_of xs j) stands));
        numbers = by_table table_numbers (unfold table_of part in refl) numbers-same own-numbers;
        nibbles = other-nibbles k n;
      })
