-- The walk of the table area: what it keeps are the starts of the definition, whichever table is asked for.
-- Assumes nothing.
use mathlib.Core.Path.{◌≡◌, refl, sym, ap, ◌∙◌}
use Prim.Native.Nat.{ℕ, ◌+◌, ◌-◌, ◌≤◌, ◌<◌}
use native.Mathlib.Omega.{arith}
use mathlib.Core.List.{List}
use mathlib.Core.Bool.{Bool, true, false, not}
use borrow.Author.Tests.{ltb-true, ltb-false}
use lib.Dec.{ltb}
use lib.ListN.{length, get_or, set, replicate, length-set, length-replicate, get_or-replicate}
use lib.Seq.{get_or-set_same, get_or-set_other}
use Rattle.model.specs.Tables.{stands_at, table_at, start_of, table_of}
use Rattle.model.specs.declared.Table.{Table}
use Rattle.model.proofs.Conditions.{by_bool, by_eqb, false-true}
use Rattle.tables.specs.Walked.{area_long, no_start, kept_start, Passed, StartKept}
use Rattle.tables.proofs.TableLaws.{stands-fits, table_present, table_absent, start-next, none_after, table_more}

-- ---- what a refused test says of the flag

pub flag-down : (b : Bool) → not b ≡ true → b ≡ false
flag-down true e = false-true e
flag-down false e = refl

pub flag-up : (b : Bool) → not b ≡ false → b ≡ true
flag-up true e = refl
flag-up false e = false-true (sym e)

-- ---- a table that is present stands, and one with nibbles is present

module _ (area : List ℕ) (s : ℕ) {t : Table} (e : t ≡ table_at area s) where
  pub present-stands : t.present ≡ true → stands_at area s ≡ true
  present-stands h =
      by_bool (stands_at area s) (λ f. f) (λ f. false-true (sym (ap (λ (u : Table). u.present) (e ∙ table_absent area s f)) ∙ h))

  pub nibbles-stand : (t.nibbles ≡ 0 → ⊥) → stands_at area s ≡ true
  nibbles-stand n =
      by_bool (stands_at area s) (λ f. f) (λ f. absurd (n (ap (λ (u : Table). u.nibbles) (e ∙ table_absent area s f))))

-- ---- a start that is kept

module _ (area : List ℕ) (k : ℕ) where
  kept_there : stands_at area (start_of area k) ≡ true → kept_start area k ≡ start_of area k
  unfolding kept_start
  kept_there e = simp e

  kept-none : stands_at area (start_of area k) ≡ false → kept_start area k ≡ no_start
  unfolding kept_start
  kept-none e = simp e

module _ {area starts : List ℕ} {k : ℕ} (p : StartKept area starts k) (z : 0 < k) where
  pub kept-present : {s : ℕ} → s ≡ get_or starts k 0 → (s ≡ no_start → ⊥) → (stands_at area s ≡ true) × (table_at area s ≡ table_of area k)
  kept-present {s} e n =
      let at = start_of area (k - 1) in
      let d = e ∙ p.start z in
      by_bool (stands_at area at)
      (λ f. let g = d ∙ kept_there area (k - 1) f in (rw g f, ap (table_at area) g ∙ sym (table_more area k z)))
      (λ f. absurd (n (d ∙ kept-none area (k - 1) f)))

  pub kept_absent : length area ≤ area_long → get_or starts k 0 ≡ no_start → record { present = false; nibbles = 0; start = 0; quantity = 0 } ≡ table_of area k
  kept_absent long e =
      let at = start_of area (k - 1) in
      let d = sym (p.start z) ∙ e in
      by_bool (stands_at area at)
      (λ f. absurd (omega (arith, d, kept_there area (k - 1) f, stands-fits area at f)))
      (λ f. sym (table_more area k z ∙ table_absent area at f))

-- ---- what is kept

pub passed_none : (area : List ℕ) (n : ℕ) → 0 < n → Passed area (replicate n no_start) 0
passed_none area n h =
    let long : length (replicate n no_start) ≡ n = length-replicate n no_start in record {
      room = omega arith;
      kept = λ j l. absurd (omega arith);
      ahead = λ j l m. get_or-replicate n j no_start 0 (omega arith);
    }

module _ {area starts : List ℕ} {k : ℕ} (p : Passed area starts k) where
  -- the one law of the walk, over the number of the table
  pub passed_kept : (n : ℕ) → n ≤ k → StartKept area starts n
  passed_kept n h = record {
    room = omega (arith, p.room);
    start = λ l. let e : n - 1 + 1 ≡ n = omega arith in rw e at (p.kept (n - 1) (omega arith));
  }

  pub passed_more : {s : ℕ} → k + 1 < length starts → s ≡ start_of area k → stands_at area s ≡ true → Passed area (set starts (k + 1) s) (k + 1)
  passed_more {s} h e f = record {
    room = omega (arith, length-set starts (k + 1) s);
    kept = λ j l.
        by_eqb j k
        (λ g. rw g (get_or-set_same starts (k + 1) s 0 h ∙ e ∙ sym (kept_there area k (rw e at f))))
        (λ g. get_or-set_other starts (k + 1) (j + 1) s 0 (omega arith) ∙ p.kept j (omega arith));
    ahead = λ j l m. get_or-set_other starts (k + 1) j s 0 (omega arith) ∙ p.ahead j (omega arith) (omega (arith, length-set starts (k + 1) s));
  }

  pub passed_at : {n s : ℕ} → k + 1 ≡ n → n < length starts → s ≡ start_of area k → stands_at area s ≡ true → Passed area (set starts n s) n
  passed_at d h e f = rw (← d) (passed_more (omega arith) e f)

  -- behind an absent table there is none to keep
  pub passed_ended : (n : ℕ) → (table_at area (start_of area k)).present ≡ false → k ≤ n → n < length starts → Passed area starts n
  passed_ended n h l m = record {
    room = m;
    kept = λ j i.
        by_bool (ltb j k)
        (λ g. p.kept j (ltb-true j k g))
        (λ g. let b = ltb-false j k g in p.ahead (j + 1) (omega arith) (omega arith) ∙ sym (kept-none area j (none-stands j b)));
    ahead = λ j i o. p.ahead j (omega arith) o;
  }
    where
      absent : (j : ℕ) → k ≤ j → (table_at area (start_of area j)).present ≡ false
      absent j b = by_eqb j k (λ e. rw e h) (λ e. none_after area k j h (omega arith))

      none-stands : (j : ℕ) → k ≤ j → stands_at area (start_of area j) ≡ false
      none-stands j b =
          by_bool (stands_at area (start_of area j))
          (λ f. false-true (sym (absent j b) ∙ ap (λ (t : Table). t.present) (table_present area (start_of area j) f)))
          (λ f. f)

-- behind a table that stands the next starts at its end
pub start-behind : (area : List ℕ) (k : ℕ) {s : ℕ} {t : Table} → 0 < k → s ≡ start_of area (k - 1) → stands_at area s ≡ true → t ≡ table_at area s
    → t.start + t.quantity ≡ start_of area k
start-behind area k {s} z e f g =
    let d : k - 1 + 1 ≡ k = omega arith in
    sym (rw d at (start-next area (k - 1) (g ∙ ap (table_at area) e) (ap (λ (u : Table). u.present) (g ∙ table_present area s f))))

-- number 0 names none, in every area
pub none_named : (area : List ℕ) (k : ℕ) → k ≡ 0 → record { present = true; nibbles = 0; start = 0; quantity = 0 } ≡ table_of area k
unfolding table_of
none_named area k z = rw z
