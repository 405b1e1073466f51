-- What changes the areas leaves their lengths, and no tables without their plans; only two events leave neither the calculation values nor
-- the samples. Assumes nothing.
use Prim.Native.Nat.{ℕ, ◌+◌, ◌/◌, ◌≤◌}
use mathlib.Core.Path.{◌≡◌, refl, ◌∙◌}
use mathlib.Core.List.{List, [], ◌∷◌}
use mathlib.Core.Bool.{true, false, cond, ◌&&◌}
use lib.ListN.{length, get_or, length-set}
use lib.Dec.{eqb, ltb}
use native.Mathlib.Omega.{arith}
use borrow.Author.Tests.{leb-true}
use Rattle.chars.specs.Put.{put, part}
use Rattle.chars.proofs.PutLaws.{length-put, part-most, part-put-before, part-put-after}
use Rattle.model.specs.Limits.{most_asked}
use Rattle.model.specs.Frame.{Request, master_of}
use Rattle.model.specs.Config.{has, within}
use Rattle.model.specs.State.{Areas}
use Rattle.model.specs.Scan.{counts}
use Rattle.model.specs.Inputs.{Changed, settable, has_accumulator, set_word_of, pulses_of, reset_count_of}
use Rattle.model.specs.Tables.{table_area}
use Rattle.model.specs.Plans.{plans_of}
use Rattle.model.specs.Contacts.{Contacted, contact_of, anew}
use Rattle.model.specs.Control.{is_of}
use Rattle.model.specs.Blocks.{Executed, known, ordinal_start, block_of, not_executed, reaches, executes, execute_when, execute_of}
use Rattle.model.specs.declared.Outcome.{Outcome}
use Rattle.std.specs.Prelude.{None, Option, Some}
use Rattle.model.specs.declared.Write.{Write}
use Rattle.model.proofs.Conditions.{by_cond, by_bool, and_right}

pub record LeavesValues (a b : Areas) : Type 0 where
  pub words : length b.words ≡ length a.words
  pub values : b.values ≡ a.values
  pub fixed : length b.fixed ≡ length a.fixed
  pub block : length b.block ≡ length a.block
  pub changed : length b.changed ≡ length a.changed
  pub samples : b.samples ≡ a.samples

-- the plans stay with the tables; those of tables that changed are made anew (Request 12.2)
pub data Replans (table : List ℕ) (a b : Areas) : Type 0 where
  stay : b.plans ≡ a.plans → table_area b.fixed ≡ table_area a.fixed → Replans table a b
  made : b.plans ≡ plans_of table (table_area b.fixed) → Replans table a b

-- ---- one area

Long : List ℕ → Changed → Type 0
Long xs r = length r.area ≡ length xs

module _ (table xs : List ℕ) where
  pub set_word-long : (n w : ℕ) → length (set_word_of table xs n w).area ≡ length xs
  unfolding Long set_word_of
  set_word-long n w = by_cond (Long xs) (has table n && settable n) (λ e. length-set xs n w) (λ e. refl)

  pub pulses-long : (n p : ℕ) → length (pulses_of table xs n p).area ≡ length xs
  unfolding Long pulses_of
  pulses-long n p = by_cond (Long xs) (has_accumulator table n) (λ e. length-set xs n _) (λ e. refl)

  pub reset_count_long : (q : Request) → length (reset_count_of table xs q).area ≡ length xs
  unfolding Long reset_count_of
  reset_count_long q =
      by_cond (Long xs) (counts 1 q)
      (λ e. by_cond (Long xs) (has_accumulator table (get_or q.body 0 0)) (λ e. length-set xs _ 0) (λ e. refl))
      (λ e. refl)

-- ---- contacts

pub record ContactsLong (ws cs : List ℕ) (r : Contacted) : Type 0 where
  pub words : length r.words ≡ length ws
  pub changed : length r.changed ≡ length cs

pub contact-long : (table ws cs : List ℕ) (n s : ℕ) → ContactsLong ws cs (contact_of table ws cs n s)
unfolding contact_of
contact-long table ws cs n s =
    by_cond (ContactsLong ws cs) (has table (n / 8) && ltb s 2) (λ e. record { words = length-set ws _ _; changed = length-set cs _ _ })
    (λ e. record { words = refl; changed = refl })

pub anew-long : (f : ℕ → ℕ) (gs xs : List ℕ) → length (anew f gs xs) ≡ length xs
unfolding anew
anew-long f [] xs = refl
anew-long f (g ∷ gs) xs = anew-long f gs _ ∙ length-set xs g _

-- ---- the two areas of EXECUTE

pub record BothLong (xs ys : List ℕ) (r : Executed) : Type 0 where
  pub fixed : length r.fixed ≡ length xs
  pub block : length r.block ≡ length ys

module _ (fixed block : List ℕ) where
  not_executed-long : (o : Outcome) → BothLong fixed block (not_executed o fixed block)
  unfolding not_executed
  not_executed-long o = record { fixed = refl; block = refl }

  executes-long : (o bias : ℕ) (ys : List ℕ) → BothLong fixed block (executes fixed block o bias ys)
  unfolding executes
  executes-long o bias ys =
      by_cond (BothLong fixed block) (reaches fixed block o bias (length ys))
      (λ e.
      record {
        fixed = by_cond (λ (xs : List ℕ). length xs ≡ length fixed) (eqb o 0x06) (λ e. refl) (λ e. length-put fixed (ordinal_start o + bias) ys);
        block = by_cond (λ (xs : List ℕ). length xs ≡ length block) (eqb o 0x06) (λ e. length-put block bias ys) (λ e. refl);
      })
      (λ e. not_executed-long _)

  execute_when-long : (p : Option Write) (q : Request) → BothLong fixed block (execute_when p fixed block q)
  unfolding execute_when
  execute_when-long None q = not_executed-long _
  execute_when-long (Some w) q =
      by_cond (BothLong fixed block) (is_of w.master (master_of q.address))
      (λ e. executes-long w.ordinal.0 w.bias q.body)
      (λ e. not_executed-long _)

  pub execute-long : (p : Option Write) (q : Request) → BothLong fixed block (execute_of p fixed block q)
  unfolding execute_of
  execute-long p q =
      by_cond (BothLong fixed block) (within 1 most_asked (length q.body)) (λ e. execute_when-long p q) (λ e. not_executed-long _)

-- ---- the tables after EXECUTE: they are as they were, unless it was into ordinal 03

Tabled : List ℕ → Executed → Type 0
Tabled fixed r = r.configures ≡ false → table_area r.fixed ≡ table_area fixed

module _ (fixed block : List ℕ) where
  not_executed_tabled : (o : Outcome) → Tabled fixed (not_executed o fixed block)
  unfolding Tabled not_executed
  not_executed_tabled o = λ e. refl

  -- ordinal 00 lies before the tables, 0Bh behind them
  put_tabled : (o bias : ℕ) (ys : List ℕ) → reaches fixed block o bias (length ys) ≡ true → eqb o 0x06 ≡ false → eqb o 0x03 ≡ false
      → part (put fixed (ordinal_start o + bias) ys) 16 256 ≡ part fixed 16 256
  unfolding reaches ordinal_start block_of
  put_tabled o bias ys r s t =
      let inside : bias + length ys ≤ length (block_of fixed block o) = leb-true _ _ (and_right (known o) _ r) in
      by_bool (eqb o 0x00)
      (λ e. let l : bias + length ys ≤ length (part fixed 0 16) = rw (e, s) at inside in
      rw e (part-put-after fixed (0 + bias) ys 16 256 (omega (arith, l, part-most fixed 0 16))))
      (λ e. rw (e, t) (part-put-before fixed (272 + bias) ys 16 256 (omega arith)))

  executes_tabled : (o bias : ℕ) (ys : List ℕ) → Tabled fixed (executes fixed block o bias ys)
  unfolding executes Tabled table_area not_executed
  executes_tabled o bias ys =
      by_cond (Tabled fixed) (reaches fixed block o bias (length ys))
      (λ r t. by_cond (λ (xs : List ℕ). part xs 16 256 ≡ part fixed 16 256) (eqb o 0x06) (λ e. refl) (λ e. put_tabled o bias ys r e t))
      (λ r t. refl)

  execute_when_tabled : (p : Option Write) (q : Request) → Tabled fixed (execute_when p fixed block q)
  unfolding execute_when
  execute_when_tabled None q = not_executed_tabled _
  execute_when_tabled (Some w) q =
      by_cond (Tabled fixed) (is_of w.master (master_of q.address))
      (λ e. executes_tabled w.ordinal.0 w.bias q.body)
      (λ e. not_executed_tabled _)

  execute_tabled : (p : Option Write) (q : Request) → Tabled fixed (execute_of p fixed block q)
  unfolding execute_of
  execute_tabled p q =
      by_cond (Tabled fixed) (within 1 most_asked (length q.body)) (λ e. execute_when_tabled p q) (λ e. not_executed_tabled _)

-- so an EXECUTE leaves plans and tables, or makes the plans anew
module _ (table : List ℕ) (a : Areas) where
  pub execute_replans : (p : Option Write) (q : Request)
      → let r = execute_of p a.fixed a.block q in
      Replans table a
      (record {
        words = a.words;
        values = a.values;
        fixed = r.fixed;
        block = r.block;
        changed = a.changed;
        samples = a.samples;
        plans = cond r.configures (plans_of table (table_area r.fixed)) a.plans;
      })
  unfolding Tabled
  execute_replans p q =
      let r = execute_of p a.fixed a.block q in
      by_bool r.configures (λ e. made (rw e)) (λ e. stay (rw e) (execute_tabled a.fixed a.block p q e))
