-- Words stand on the line low character first, in every reply that has words and in a record. Assumes nothing.
use Prim.Native.Nat.{ℕ, zero, suc, ◌+◌, ◌*◌, ◌/◌, ◌%◌, ◌<◌}
use mathlib.Core.Path.{◌≡◌, refl, sym, ap, ◌∙◌}
use mathlib.Core.List.{List, [], ◌∷◌, ◌++◌}
use mathlib.Core.Bool.{Bool, true, false, cond, ◌&&◌}
use lib.ListN.{length, get_or, drop}
use lib.Dec.{eqb, ltb}
use native.Mathlib.Omega.{arith}
use Rattle.chars.specs.Word.{word, word_at}
use Rattle.chars.specs.Gather.{gather}
use Rattle.model.specs.Limits.{record_head}
use Rattle.model.specs.Frame.{Request}
use Rattle.model.specs.Outcome.{number_of}
use Rattle.model.specs.Config.{has}
use Rattle.model.specs.Scan.{Scan, refuses, counts, with_no_data}
use Rattle.model.specs.Inputs.{unreserved, chosen, word_of, inputs_of}
use Rattle.model.specs.Tables.{table_of, table_numbers, sendable, word_in, send_of, table_scan}
use Rattle.model.specs.History.{record_chars}
use Rattle.model.specs.Laws.{LowFirst, equipped}
use Rattle.model.specs.declared.Outcome.{Outcome}
use Rattle.model.specs.declared.Outcome.TheVariants.{Done, Unknown, WrongCount, NotValid, TooLong}
use Rattle.model.specs.declared.Record.{Record}
use Rattle.model.proofs.Conditions.{by_cond, false-true}

-- ---- words one behind the other

module _ (w : ℕ → ℕ) where
  words : List ℕ → List ℕ
  words ns = gather (λ n. word (w n)) ns

  long : (ns : List ℕ) → length (words ns) ≡ 2 * length ns
  unfolding words gather word
  long [] = refl
  long (n ∷ ns) = omega (arith, long ns)

  -- the character at a place of the first word, and of those behind it
  at : (ns : List ℕ) (i j : ℕ) → j < 2 → i < length ns → get_or (words ns) (2 * i + j) 0 ≡ get_or (word (w (get_or ns i 0))) j 0
  unfolding words gather word
  at [] i j b h = absurd (omega arith)
  at (n ∷ ns) zero zero b h = refl
  at (n ∷ ns) zero (suc zero) b h = refl
  at (n ∷ ns) zero (suc (suc j)) b h = absurd (omega arith)
  at (n ∷ ns) (suc i) j b h =
      let e : 2 * suc i + j ≡ suc (suc (2 * i + j)) = omega arith in
      ap (λ x. get_or (words (n ∷ ns)) x 0) e ∙ at ns i j b (omega arith)

  pub low_first : (ns : List ℕ) → LowFirst w ns (gather (λ n. word (w n)) ns)
  unfolding words word word_at
  low_first ns =
      let low : (i : ℕ) → i < length ns → get_or (words ns) (2 * i) 0 ≡ w (get_or ns i 0) % 256 =
      λ i h. let e : 2 * i ≡ 2 * i + 0 = omega arith in ap (λ x. get_or (words ns) x 0) e ∙ at ns i 0 (omega arith) h in
      let high : (i : ℕ) → i < length ns → get_or (words ns) (2 * i + 1) 0 ≡ w (get_or ns i 0) / 256 = λ i h. at ns i 1 (omega arith) h in
      record { long = long ns; low = low; high = high; back = λ i h. omega (arith, low i h, high i h) }

-- ---- where words are sent

-- a scan that tells is in this order
abbrev Ordered : (ℕ → ℕ) → List ℕ → Scan → Type 0
Ordered w ns r = r.outcome ≡ Done → LowFirst w ns r.chars

never : {w : ℕ → ℕ} {ns : List ℕ} (o : Outcome) → eqb (number_of o) 0 ≡ false → Ordered w ns (refuses o)
never o h e = false-true (sym h ∙ ap (λ (x : Outcome). eqb (number_of x) 0) e)

module _ (table xs : List ℕ) where
  only_equipped : (ns : List ℕ) → gather (word_of table xs) ns ≡ gather (λ n. word (get_or xs n 0)) (equipped table ns)
  unfolding gather word_of equipped
  only_equipped [] = refl
  only_equipped (n ∷ ns) = go (has table n) (only_equipped ns)
    where
      go : (b : Bool) → gather (word_of table xs) ns ≡ gather (λ n. word (get_or xs n 0)) (equipped table ns)
          → cond b (word (get_or xs n 0)) [] ++ gather (word_of table xs) ns ≡ gather (λ n. word (get_or xs n 0)) (cond b (n ∷ equipped table ns) (equipped table ns))
      go true e = ap (λ (ys : List ℕ). word (get_or xs n 0) ++ ys) e
      go false e = e

  -- function 00: the equipped words of the kinds asked for
  pub inputs-low_first : (q : Request) → Ordered (λ n. get_or xs n 0) (equipped table (chosen q.command)) (inputs_of table xs q)
  unfolding inputs_of with_no_data
  inputs-low_first q =
      let ns = equipped table (chosen q.command) in
      let P : Scan → Type 0 = Ordered (λ n. get_or xs n 0) ns in
      by_cond P (unreserved q.command)
      (λ a. by_cond P (counts 0 q) (λ b e. rw (only_equipped (chosen q.command)) (low_first (λ n. get_or xs n 0) ns)) (λ b. never WrongCount refl))
      (λ a. never Unknown refl)

-- function 0Ah: the words of the three tables
pub tables_low_first : (table area xs : List ℕ) (k : ℕ)
    → Ordered (λ n. get_or xs n 0)
    (table_numbers area (table_of area ((table_of area k).nibbles / 16)) ++ (table_numbers area (table_of area ((table_of area k).nibbles % 16)) ++ table_numbers area (table_of area k)))
    (table_scan table area xs k)
unfolding table_scan send_of word_in
tables_low_first table area xs k =
    let one = table_of area ((table_of area k).nibbles / 16) in
    let two = table_of area ((table_of area k).nibbles % 16) in
    let own = table_of area k in
    let ns = table_numbers area one ++ (table_numbers area two ++ table_numbers area own) in
    let P : Scan → Type 0 = Ordered (λ n. get_or xs n 0) ns in
    by_cond P (sendable table area own && (sendable table area one && sendable table area two))
    (λ a. by_cond P (ltb 255 (one.quantity + two.quantity + own.quantity)) (λ b. never TooLong refl) (λ b e. low_first (λ n. get_or xs n 0) ns))
    (λ a. never NotValid refl)

-- a record: its values behind the head
pub record_low_first : (r : Record) (vs : List ℕ) → LowFirst (λ v. v) vs (drop record_head (record_chars r vs))
unfolding record_chars
record_low_first r vs = low_first (λ v. v) vs
