-- What functions 00 and 0Ah say is such as a master believes, over any words and tables. Assumes nothing.
use Prim.Native.Nat.{ℕ, ◌*◌, ◌/◌, ◌%◌, ◌≤◌}
use mathlib.Core.Path.{◌≡◌, refl, sym, ap, ◌∙◌}
use mathlib.Core.Logic.{inr}
use mathlib.Core.List.{List, []}
use mathlib.Core.Bool.{Bool, true, cond}
use lib.ListN.{length, get_or, length-append}
use lib.Dec.{eqb}
use native.Mathlib.Omega.{arith}
use borrow.Author.Tests.{eq-eqb, le-leb}
use Rattle.chars.specs.Gather.{gather}
use Rattle.chars.proofs.WordLaws.{length-word}
use Rattle.chars.proofs.GatherLaws.{gather-most, gather-each, length_up}
use Rattle.model.specs.Frame.{Request}
use Rattle.model.specs.Outcome.{sending_of}
use Rattle.model.specs.Config.{has, within, two_bits, simples, accumulators, analogs}
use Rattle.model.specs.Scan.{Scan, tells, refuses, counts, with_no_data}
use Rattle.model.specs.Inputs.{unreserved, chosen, word_of, inputs_of}
use Rattle.model.specs.Tables.{word_in, table_area, table_asked}
use Rattle.model.specs.Plans.{planned_scan, planned_of}
use Rattle.model.specs.Believe.{empty, filled_by}
use Rattle.model.specs.declared.Outcome.{Outcome}
use Rattle.model.specs.declared.Outcome.TheVariants.{Done, NotValid, TooLong}
use Rattle.model.specs.declared.Sending.TheVariants.{Nop}
use Rattle.model.proofs.Conditions.{by_cond, and_both}
use Rattle.model.proofs.LowFirst.{inputs-low_first}
use Rattle.model.proofs.PlanLaws.{numbers-most}
use Rattle.model.proofs.Telling.{Answers, told, declined, tell_inputs, tell_tables, refuse_plain}

filled : (ys : List ℕ) → length ys % 2 ≡ 0 → length ys ≤ 511 → filled_by 2 ys ≡ true
unfolding filled_by
filled ys e l = and_both (eq-eqb (length ys % 2) 0 e) (le-leb (length ys) 511 l)

-- ---- function 00

-- the kinds have 32, 16, 32 and 128 numbers
chosen-most : (c : ℕ) → length (chosen c) ≤ 208
unfolding chosen
chosen-most c =
    let few : (b : Bool) (xs : List ℕ) (n : ℕ) → length xs ≡ n → length (cond b xs []) ≤ n =
    λ b xs n e. by_cond (λ (z : List ℕ). length z ≤ n) b (λ k. omega arith) (λ k. omega arith) in
    rw (length-append, length-append, length-append)
    (omega (
      arith,
      few (eqb (c / 4 % 2) 1) two_bits 32 (length_up 0x00 32),
      few (eqb (c % 2) 1) simples 16 (length_up 0x30 16),
      few (eqb (c / 64 % 2) 1) accumulators 32 (length_up 0x40 32),
      few (eqb (c / 8 % 2) 1) analogs 128 (length_up 0x80 128),
    ))

module _ (table xs : List ℕ) (q : Request) where
  word-most : (n : ℕ) → length (word_of table xs n) ≤ 2
  unfolding word_of
  word-most n = by_cond (λ (z : List ℕ). length z ≤ 2) (has table n) (λ e. omega (arith, length-word (get_or xs n 0))) (λ e. omega arith)

  abbrev ys : List ℕ
  ys = gather (word_of table xs) (chosen q.command)

  inputs-most : length ys ≤ 2 * length (chosen q.command)
  inputs-most = gather-most (word_of table xs) 2 word-most (chosen q.command)

  module _ (u : unreserved q.command ≡ true) (n : counts 0 q ≡ true) where
    inputs_is : inputs_of table xs q ≡ record { outcome = Done; chars = ys }
    unfolding inputs_of with_no_data
    inputs_is = rw (u, n)

    inputs_even : length ys % 2 ≡ 0
    inputs_even =
        let o : (inputs_of table xs q).outcome ≡ Done = ap (λ (r : Scan). r.outcome) inputs_is in
        let l = (inputs-low_first table xs q o).long in
        let k : length ys ≡ length (inputs_of table xs q).chars = ap (λ (r : Scan). length r.chars) (sym inputs_is) in
        omega arith

    -- an even number of characters, no more than the kinds asked for have words
    pub inputs-answer : q.function ≡ 0x00 → Answers q (inputs_of table xs q)
    inputs-answer e =
        rw inputs_is
        (told q ys (omega (arith, inputs-most, chosen-most q.command))
        (tell_inputs q ys e
        ∙ and_both (filled ys inputs_even (omega (arith, inputs-most, chosen-most q.command))) (le-leb (length ys) (2 * length (chosen q.command)) inputs-most)))

-- ---- function 0Ah

module _ (xs : List ℕ) (q : Request) (e : q.function ≡ 0x0A) where
  plain-refused : (o : Outcome) → sending_of o ≡ Nop → Answers q (refuses o)
  plain-refused o s = declined q [] o s (omega arith) (refuse_plain q [] (inr e) ∙ (unfold empty in refl))

  word_two : (n : ℕ) → length (word_in xs n) ≡ 2
  unfolding word_in
  word_two n = length-word (get_or xs n 0)

  -- so many words as the tables have numbers
  words-told : (ns : List ℕ) → length ns ≤ 255 → Answers q (tells (gather (word_in xs) ns))
  words-told ns l =
      let ys = gather (word_in xs) ns in
      let k : length ys ≡ 2 * length ns = gather-each (word_in xs) 2 word_two ns in
      told q ys (omega arith) (tell_tables q ys e ∙ filled ys (omega arith) (omega arith))

  -- by whatever plan
  pub tables_answer : (plans fixed : List ℕ) → within 0x41 0x4F q.command ≡ true → counts 0 q ≡ true → Answers q (planned_of plans fixed xs q)
  unfolding planned_of table_asked with_no_data planned_scan
  tables_answer plans fixed l n =
      let k = q.command % 16 in
      rw (l, n)
      (by_cond (Answers q) (eqb (get_or plans k 0) 0) (λ e. words-told _ (numbers-most plans (table_area fixed) k))
      (λ e. by_cond (λ (o : Outcome). Answers q (refuses o)) (eqb (get_or plans k 0) 9) (λ e. plain-refused TooLong refl) (λ e. plain-refused NotValid refl)))
