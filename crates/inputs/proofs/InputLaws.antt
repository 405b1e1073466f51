-- What function 00 comes to, number by number and case by case.
-- Assumes nothing.
use mathlib.Core.Path.{◌≡◌, refl, ◌∙◌}
use Prim.Native.Nat.{ℕ, ◌/◌, ◌%◌}
use mathlib.Core.List.{List, [], append-nil}
use mathlib.Core.Bool.{Bool, true, false, cond}
use borrow.Author.Tests.{eq-eqb, ne_eqb}
use lib.Dec.{eqb}
use lib.ListN.{get_or}
use Rattle.chars.specs.Word.{word}
use Rattle.chars.specs.Gather.{gather, up_from}
use Rattle.chars.proofs.GatherLaws.{gather_append}
use Rattle.model.specs.Config.{has, two_bit, two_bits, simples, accumulators, analogs}
use Rattle.model.specs.Contacts.{group_in}
use Rattle.model.specs.Inputs.{word_of, chosen}

module _ (table words : List ℕ) (n : ℕ) where
  pub word-taken : {v : ℕ} → has table n ≡ true → v ≡ get_or words n 0 → word_of table words n ≡ word v
  unfolding word_of
  word-taken e h = simp (e, h)

  pub word-left : has table n ≡ false → word_of table words n ≡ []
  unfolding word_of
  word-left e = simp e

-- ---- the groups of contacts among the chosen numbers

module _ (table : List ℕ) where
  no_group : (b : Bool) (ns : List ℕ) → gather (group_in table) ns ≡ [] → gather (group_in table) (cond b ns []) ≡ []
  unfolding gather
  no_group true ns e = e
  no_group false ns e = refl

  others : gather (group_in table) simples ≡ []
  unfolding gather group_in two_bit up_from
  others = refl

  counts : gather (group_in table) accumulators ≡ []
  unfolding gather group_in two_bit up_from
  counts = refl

  measures : gather (group_in table) analogs ≡ []
  unfolding gather group_in two_bit up_from
  measures = refl

  -- only the two-bit kind has any
  chosen_groups : (c : ℕ) → gather (group_in table) (chosen c) ≡ gather (group_in table) (cond (eqb (c / 4 % 2) 1) two_bits [])
  unfolding chosen
  chosen_groups c =
      let f = group_in table in
      gather_append f (cond (eqb (c / 4 % 2) 1) two_bits []) _
      ∙ rw (
        gather_append f (cond (eqb (c % 2) 1) simples []),
        gather_append f (cond (eqb (c / 64 % 2) 1) accumulators []),
        no_group (eqb (c % 2) 1) simples others,
        no_group (eqb (c / 64 % 2) 1) accumulators counts,
        no_group (eqb (c / 8 % 2) 1) analogs measures,
      )
      (append-nil _)

  pub groups_chosen : (c : ℕ) → c / 4 % 2 ≡ 1 → gather (group_in table) (chosen c) ≡ gather (group_in table) (up_from 0 32)
  groups_chosen c e = chosen_groups c ∙ rw (eq-eqb _ _ e)

  pub groups_unchosen : (c : ℕ) → (c / 4 % 2 ≡ 1 → ⊥) → gather (group_in table) (chosen c) ≡ []
  unfolding gather
  groups_unchosen c e = chosen_groups c ∙ rw (ne_eqb (c / 4 % 2) 1 e)
