-- The groups of contacts that a reply carried have started anew: what that leaves of what was made. Assumes nothing.
use mathlib.Core.Path.{◌≡◌, refl, ap, ◌∙◌}
use Prim.Native.Nat.{ℕ, ◌%◌}
use mathlib.Core.List.{List, []}
use mathlib.Core.Bool.{Bool, true, false, cond}
use lib.Dec.{eqb}
use borrow.Author.Tests.{ne_eqb}
use Rattle.chars.specs.Gather.{gather}
use Rattle.model.specs.Frame.{Request, asked}
use Rattle.model.specs.Outcome.{number_of}
use Rattle.model.specs.Config.{Config}
use Rattle.model.specs.State.{Areas}
use Rattle.model.specs.Contacts.{asks_for, group_in, groups_carried, anew, areas_anew}
use Rattle.model.specs.Inputs.{chosen}
use Rattle.model.specs.Tables.{table_area, scan_numbers}
use Rattle.model.specs.Step.{Made, areas_left}
use Rattle.model.specs.declared.Outcome.{Outcome}
use Rattle.model.specs.declared.Answer.TheVariants.{Ended}
use Rattle.model.specs.declared.Frame.{Frame}
use Rattle.model.specs.declared.Mark.{Mark}
use Rattle.model.specs.declared.Port.{Port}
use Rattle.layout.specs.Unit.{Unit, unit_in, config_in, numbers_in, NumbersOnly}
use Rattle.layout.specs.Contacts.{Anew}
use Rattle.layout.proofs.ContactLaws.{anew-none}
use Rattle.layout.specs.Records.{files_in}
use Rattle.layout.specs.Kept.{areas_by, areas_in}
use Rattle.serve.specs.declared.Made.{Made as MadeOf}
use Rattle.serve.specs.Promises.{Undropped, MadeInPromise}
use Rattle.serve.proofs.CommandLaws.{unshifted_numbers, numbers-kept}
use Rattle.serve.proofs.KeptLaws.{steady-means}

-- ---- which groups, by function

module _ (table fixed : List ℕ) (q : Request) where
  pub carried-inputs : q.function ≡ 0x00 → groups_carried table fixed q ≡ gather (group_in table) (chosen q.command)
  unfolding groups_carried asks_for
  carried-inputs e = rw e

  pub carried_tables : q.function ≡ 0x0A → groups_carried table fixed q ≡ gather (group_in table) (scan_numbers (table_area fixed) (q.command % 16))
  unfolding groups_carried asks_for
  carried_tables e = rw e

  pub carried_none : (q.function ≡ 0x00 → ⊥) → (q.function ≡ 0x0A → ⊥) → groups_carried table fixed q ≡ []
  unfolding groups_carried asks_for gather
  carried_none e f = simp (ne_eqb _ _ e, ne_eqb _ _ f)

-- groups start anew where the outcome is 0, else none
module _ (u : List ℕ) (n : ℕ) where
  pub anew-done : {v gs hs : List ℕ} → eqb n 0 ≡ true → hs ≡ gs → Anew u v gs → Anew u v (cond (eqb n 0) hs [])
  anew-done z e a = rw (z, e) a

  pub anew_undone : (hs : List ℕ) → eqb n 0 ≡ false → Anew u u (cond (eqb n 0) hs [])
  anew_undone hs z = rw z (anew-none u)

-- ---- what is left

anew_or : (b : Bool) (gs : List ℕ) (a : Areas) → areas_anew (cond b gs []) a ≡ cond b (areas_anew gs a) a
unfolding areas_anew anew
anew_or true gs a = refl
anew_or false gs a = refl

-- a memory t of which only numbers differ from v, and w in which the carried groups have started anew
module _ (c : Config) (v t w block : List ℕ) (ss : List (List ℕ)) (f : Frame) (body : List ℕ) (o : Outcome) (only : NumbersOnly v t) (same : config_in t ≡ c)
    (told : Anew t w (cond (eqb (number_of o) 0) (groups_carried (config_in t).inputs (unit_in t).fixed (asked f [])) [])) where
  pub areas-left : areas_in w block ss ≡ areas_left c (asked f body) (Ended o) (areas_in v block ss)
  unfolding areas_left areas_anew groups_carried asks_for
  areas-left =
      let b = eqb (number_of o) 0 in
      ap (λ (x : Unit). areas_by x block ss) told.means
      ∙ anew_or b (groups_carried (config_in t).inputs (unit_in t).fixed (asked f [])) (areas_in t block ss)
      ∙ ap (λ (a : Areas). cond b (areas_anew (groups_carried (config_in t).inputs a.fixed (asked f [])) a) a) (numbers-kept v block ss t only)
      ∙ ap (λ (k : Config). cond b (areas_anew (groups_carried k.inputs (unit_in v).fixed (asked f body)) (areas_in v block ss)) (areas_in v block ss)) same

  pub makes-told : {m : Made} {mark : Mark} {a : Areas} {p : Port} {area held area' entry exit : List ℕ} {r : MadeOf}
      → MadeInPromise c m mark a (files_in c area' (unit_in v).counts) p (numbers_in t) area held area' (unit_in v).counts entry exit r
      → MadeInPromise c m mark a (files_in c area' (unit_in w).counts) p (numbers_in w) area held area' (unit_in w).counts entry exit r
  makes-told h =
      let n : (unit_in w).counts ≡ (unit_in v).counts = ap (λ (x : Unit). x.counts) told.means ∙ (unshifted_numbers v t only).counts in
      let k : numbers_in w ≡ numbers_in t = ap (λ (x : Unit). x.numbers) told.means in
      rw (n, k) h

  pub told-steady : Undropped t w
  told-steady = steady-means t w told.means refl refl refl refl told.long
