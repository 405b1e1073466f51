-- Laws of tests and of lists read from an index on.
use mathlib.Core.Path.{◌≡◌, refl, ap}
use Prim.Native.Nat.{ℕ, zero, suc, ◌+◌, ◌≤◌, ◌<◌}
use native.Mathlib.Numerals.{add-one}
use native.Mathlib.Omega.{arith}
use mathlib.Core.List.{List, [], ◌∷◌, ◌++◌}
use mathlib.Core.Bool.{Bool, true, false, cond, ◌&&◌}
use lib.ListN.{length, drop, get_or, set, drop_of_length-le}
use lib.Seq.{drop-cons}
use Rattle.std.specs.List.{list_all}
use Rattle.chars.specs.Gather.{every}

pub by_test : {P : Type 0} (b : Bool) → (b ≡ true → P) → (b ≡ false → P) → P
by_test true t f = t refl
by_test false t f = f refl

pub cond_same : {A : Type 0} (b : Bool) (x : A) → cond b x x ≡ x
cond_same true x = refl
cond_same false x = refl

pub cond_and : {A : Type 0} (b c : Bool) (x y : A) → cond (b && c) x y ≡ cond b (cond c x y) y
cond_and true c x y = refl
cond_and false c x y = refl

both : (b c : Bool) → b && c ≡ true → (b ≡ true) × (c ≡ true)
both true c e = (refl, e)
both false c e = absurd (let z : ◌≡◌ {A = ℕ} 0 1 = cc in omega arith)

-- one more of a list is judged
pub every-step : (f : ℕ → Bool) (s : List ℕ) (i : ℕ) → i < length s → every f (drop i s) ≡ f (get_or s i 0) && every f (drop (i + 1) s)
unfolding every
every-step f s i h = rw (add-one, drop-cons s i 0)

pub every_end : (f : ℕ → Bool) (s : List ℕ) (i : ℕ) → length s ≤ i → every f (drop i s) ≡ true
unfolding every
every_end f s i h = ap (every f) (drop_of_length-le s h)

pub every-list_all : (f : ℕ → Bool) (s : List ℕ) → every f s ≡ list_all f s
unfolding every
every-list_all f [] = refl
every-list_all f (x ∷ s) = ap (λ b. f x && b) (every-list_all f s)

pub every_at : (f : ℕ → Bool) (s : List ℕ) (i : ℕ) → every f s ≡ true → i < length s → f (get_or s i 0) ≡ true
unfolding every
every_at f [] i e h = absurd (omega arith)
every_at f (x ∷ s) zero e h = (both (f x) (every f s) e).0
every_at f (x ∷ s) (suc i) e h = every_at f s i (both (f x) (every f s) e).1 (omega arith)

pub every_append : (f : ℕ → Bool) (s t : List ℕ) → every f s ≡ true → every f t ≡ true → every f (s ++ t) ≡ true
unfolding every
every_append f [] t e h = h
every_append f (x ∷ s) t e h = rw (both (f x) (every f s) e).0 (every_append f s t (both (f x) (every f s) e).1 h)

-- what is stored at an index is read from there on
pub drop_set_at : (l : List ℕ) (j v : ℕ) → j < length l → drop j (set l j v) ≡ v ∷ drop (j + 1) l
drop_set_at [] j v h = absurd (omega arith)
drop_set_at (x ∷ l) zero v h = refl
drop_set_at (x ∷ l) (suc j) v h = let e : suc j + 1 ≡ suc (j + 1) = omega arith in rw e (drop_set_at l j v (omega arith))
