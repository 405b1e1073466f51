-- Tests: a choice by its two cases, two tests both passed, and one test passed by a run of numbers. Assumes nothing.
use Prim.Native.Nat.{ℕ, zero, suc, ◌+◌, ◌≤◌, ◌<◌}
use mathlib.Core.Path.{◌≡◌, refl, ◌∙◌}
use mathlib.Core.List.{List, [], ◌∷◌, ◌++◌}
use mathlib.Core.Bool.{Bool, true, false, cond, ◌&&◌, ◌||◌}
use lib.Dec.{eqb}
use native.Mathlib.Omega.{arith}
use borrow.Author.Tests.{eqb-true, eqb-false}
use Rattle.chars.specs.Gather.{up_from, every}

-- what both cases of a choice have, the choice has
pub by_cond {ℓ κ} : {A : Type ℓ} (P : A → Type κ) (b : Bool) {x y : A} → (b ≡ true → P x) → (b ≡ false → P y) → P (cond b x y)
by_cond P true f g = f refl
by_cond P false f g = g refl

-- a choice that is passed was passed by the case it took
pub cond_cases : {X : Type 0} (b x y : Bool) → cond b x y ≡ true → (b ≡ true → x ≡ true → X) → (b ≡ false → y ≡ true → X) → X
cond_cases true x y e f g = f refl e
cond_cases false x y e f g = g refl e

pub by_bool : {X : Type 0} (b : Bool) → (b ≡ true → X) → (b ≡ false → X) → X
by_bool true f g = f refl
by_bool false f g = g refl

-- two choices by one test, alike where they can differ
pub cond-then : {A : Type 0} (b : Bool) {x y : A} (z : A) → (b ≡ true → x ≡ y) → cond b x z ≡ cond b y z
cond-then true z e = e refl
cond-then false z e = refl

pub cond-else : {A : Type 0} (b : Bool) (x : A) {y z : A} → y ≡ z → cond b x y ≡ cond b x z
cond-else true x e = refl
cond-else false x e = e

-- false is not true, so anything follows
pub false-true {ℓ} : {A : Type ℓ} → false ≡ true → A
false-true e = let z : ◌≡◌ {A = ℕ} 0 1 = cc in absurd (omega arith)

pub and_left : (a b : Bool) → (a && b) ≡ true → a ≡ true
and_left true b e = refl
and_left false b e = e

pub and_right : (a b : Bool) → (a && b) ≡ true → b ≡ true
and_right true b e = e
and_right false b e = false-true e

pub or_left : (a b : Bool) → (a || b) ≡ false → a ≡ false
or_left true b e = e
or_left false b e = refl

pub or_right : (a b : Bool) → b ≡ true → (a || b) ≡ true
or_right true b e = refl
or_right false b e = e

pub or_cases : {X : Type 0} (a b : Bool) → (a || b) ≡ true → (a ≡ true → X) → (b ≡ true → X) → X
or_cases true b e f g = f refl
or_cases false b e f g = g e

pub and_both : {a b : Bool} → a ≡ true → b ≡ true → (a && b) ≡ true
and_both p q = rw p q

-- every, over a list in two parts and over the n numbers from `from` on
pub every_append : (f : ℕ → Bool) (xs ys : List ℕ) → every f (xs ++ ys) ≡ (every f xs && every f ys)
unfolding every
every_append f [] ys = refl
every_append f (x ∷ xs) ys = go (f x) (every_append f xs ys)
  where
    go : (b : Bool) → every f (xs ++ ys) ≡ (every f xs && every f ys) → (b && every f (xs ++ ys)) ≡ (b && every f xs && every f ys)
    go true e = e
    go false e = refl

every_more : (f : ℕ → Bool) (from n : ℕ) → every f (up_from from (suc n)) ≡ (every f (up_from from n) && (f (from + n) && true))
unfolding up_from every
every_more f from n = every_append f (up_from from n) ((from + n) ∷ [])

every-none : (f : ℕ → Bool) (from : ℕ) → every f (up_from from zero) ≡ true
unfolding up_from every
every-none f from = refl

-- two numbers are equal, or not
pub by_eqb {ℓ} : {A : Type ℓ} (a b : ℕ) → (a ≡ b → A) → ((a ≡ b → ⊥) → A) → A
by_eqb {A = A} a b f g = go (eqb a b) refl
  where
    go : (t : Bool) → eqb a b ≡ t → A
    go true e = f (eqb-true a b e)
    go false e = g (eqb-false a b e)

-- a test that all of them pass is passed by each
pub every-up_from : (f : ℕ → Bool) (from n : ℕ) → every f (up_from from n) ≡ true → (k : ℕ) → from ≤ k → k < from + n → f k ≡ true
every-up_from f from zero e k low high = absurd (omega arith)
every-up_from f from (suc n) e k low high =
    let all : (every f (up_from from n) && (f (from + n) && true)) ≡ true = rw (every_more f from n) at e in
    by_eqb (from + n) k (λ p. rw p at (and_left (f (from + n)) true (and_right (every f (up_from from n)) _ all)))
    (λ p. let s : k < from + n = omega arith in every-up_from f from n (and_left _ _ all) k low s)

-- and a test that each of them passes is passed by all
pub up_from-every : (f : ℕ → Bool) (from n : ℕ) → ((k : ℕ) → from ≤ k → k < from + n → f k ≡ true) → every f (up_from from n) ≡ true
up_from-every f from zero h = every-none f from
up_from-every f from (suc n) h =
    let low : from ≤ from + n = omega arith in
    let high : from + n < from + suc n = omega arith in
    every_more f from n
    ∙ and_both (up_from-every f from n (λ k l g. let s : k < from + suc n = omega arith in h k l s)) (and_both (h (from + n) low high) refl)
