-- The samples of the places, one of which takes another; and the calculations that are equipped now. Assumes nothing.
use Prim.Native.Nat.{ℕ, ◌+◌, ◌-◌, min}
use mathlib.Core.Path.{◌≡◌, refl, sym, ◌∙◌}
use mathlib.Core.List.{List, []}
use mathlib.Core.Bool.{true}
use lib.ListN.{length, get_or, set, replicate, length-append, length-drop, get_or-replicate, get_or-eq_default, length-replicate}
use lib.Seq.{get_or-set_same, get_or-set_other, set_out}
use lib.Dec.{leb}
use native.Mathlib.Omega.{arith}
use native.Mathlib.Decide.{dec_lt}
use borrow.Author.Tests.{le-leb}
use Rattle.model.specs.Limits.{most_means}
use Rattle.model.specs.Config.{Config, window_at}
use Rattle.model.specs.State.{Areas}
use Rattle.model.specs.Means.{samples_at, last_of, taken_at}
use Rattle.model.specs.Fits.{samples_fit}
use Rattle.model.proofs.Conditions.{by_eqb}

-- what stands at a place after one was set: what was set, or what stood there
pub at_set : {A : Type 0} (P : A → Type 0) (xs : List A) (q p : ℕ) (x d : A) → P (get_or xs p d) → (q ≡ p → P x) → P (get_or (set xs q x) p d)
at_set P xs q p x d h g =
    by_eqb p q
    (λ e. elim (dec_lt q (length xs)) [
      | yes l ↦ rw (e, get_or-set_same xs q x d l) (g (sym e))
      | no n ↦ rw (set_out xs q x (omega arith)) h
    ])
    (λ n. rw (get_or-set_other xs q p x d n) h)

pub length_last : {A : Type 0} (n : ℕ) (xs : List A) → length (last_of n xs) ≡ min n (length xs)
unfolding last_of
length_last n xs = length-drop (length xs - n) xs ∙ omega arith

-- with one sample more: as many as are asked for, or one more
pub length_taken : (c : Config) (a : Areas) (p : ℕ) → length (taken_at c a p) ≡ min (window_at c p) (length (samples_at a.samples p) + 1)
unfolding taken_at
length_taken c a p = length_last (window_at c p) _ ∙ rw length-append refl

-- ---- in range

pub none-fits : (c : Config) (p : ℕ) → samples_fit c (replicate most_means []) p ≡ true
unfolding samples_fit samples_at
none-fits c p =
    elim (dec_lt p most_means) [
      | yes l ↦ rw (get_or-replicate {A = List ℕ} most_means p [] [] l) (le-leb 0 (window_at c p) (omega arith))
      | no n ↦ rw (get_or-eq_default {A = List ℕ} (replicate most_means []) [] {n = p} (omega (arith, length-replicate {A = List ℕ} most_means []))) (le-leb 0 (window_at c p) (omega arith))
    ]

pub taken-fits : (c : Config) (a : Areas) (q p : ℕ) → samples_fit c a.samples p ≡ true → samples_fit c (set a.samples q (taken_at c a q)) p ≡ true
unfolding samples_fit samples_at
taken-fits c a q p h =
    at_set (λ (ws : List ℕ). leb (length ws) (window_at c p) ≡ true) a.samples q p (taken_at c a q) [] h
    (λ e. le-leb (length (taken_at c a q)) (window_at c p) (rw (← e) (omega (arith, length_taken c a q))))
