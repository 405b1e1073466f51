-- Laws of lists that are compared, and of numbers that stand in one: what a loop's turn adds, and what the answer means.
-- Assumes nothing.
use mathlib.Core.Path.{◌≡◌, refl, sym, ap}
use Prim.Native.Nat.{ℕ, ◌+◌, ◌<◌, ◌≤◌}
use native.Mathlib.Numerals.{add-one}
use native.Mathlib.Omega.{arith}
use mathlib.Core.List.{List, [], ◌∷◌, ◌++◌}
use mathlib.Core.Bool.{Bool, true, false, cond, ◌&&◌, ◌||◌, false≢true}
use lib.ListN.{length, take, get_or}
use lib.Seq.{take-suc, take_all}
use lib.Dec.{eqb}
use lib.Pointwise.{pointwise}
use mir.Val.{bool_byte}
use borrow.Author.Tests.{eqb-true, eq-eqb}
use Rattle.chars.specs.Gather.{up_from, every}
use Rattle.chars.proofs.GatherLaws.{up_next}
use Rattle.model.specs.Believe.{same_chars, stands}

-- ---- truths

pub and_assoc : (a b c : Bool) → (a && b) && c ≡ a && (b && c)
and_assoc true b c = refl
and_assoc false b c = refl

pub and_true : (a : Bool) → a && true ≡ a
and_true true = refl
and_true false = refl

pub and_false : (a : Bool) → a && false ≡ false
and_false true = refl
and_false false = refl

pub and_swap : (a b c : Bool) → a && (b && c) ≡ b && (c && a)
and_swap true b c = rw and_true refl
and_swap false b c = rw (and_false, and_false) refl

pub or_assoc : (a b c : Bool) → (a || b) || c ≡ a || (b || c)
or_assoc true b c = refl
or_assoc false b c = refl

pub or_false : (a : Bool) → a || false ≡ a
or_false true = refl
or_false false = refl

pub bool_byte-most : (a : Bool) → bool_byte a ≤ 1
bool_byte-most true = omega arith
bool_byte-most false = omega arith

pub bool_byte_is : (a : Bool) → bool_byte a ≡ cond a 1 0
bool_byte_is true = refl
bool_byte_is false = refl

pub never : (a : Bool) → (a ≡ true → ⊥) → false ≡ a
never true h = absurd (h refl)
never false h = refl

pub and_parts : (a b : Bool) → a && b ≡ true → (a ≡ true) × (b ≡ true)
and_parts true b e = (refl, e)
and_parts false b e = absurd (false≢true e)

-- ---- the same characters

-- as == compares two slices
pub same_eq : (xs ys : List ℕ) → pointwise eqb xs ys ≡ same_chars xs ys
unfolding same_chars
same_eq [] [] = refl
same_eq [] (y ∷ ys) = refl
same_eq (x ∷ xs) [] = refl
same_eq (x ∷ xs) (y ∷ ys) = ap (λ b. eqb x y && b) (same_eq xs ys)

pub same_self : (xs : List ℕ) → same_chars xs xs ≡ true
unfolding same_chars
same_self [] = refl
same_self (x ∷ xs) = rw (eq-eqb x x refl) (same_self xs)

pub same_is : (xs ys : List ℕ) → same_chars xs ys ≡ true → xs ≡ ys
unfolding same_chars
same_is [] [] e = refl
same_is [] (y ∷ ys) e = absurd (false≢true e)
same_is (x ∷ xs) [] e = absurd (false≢true e)
same_is (x ∷ xs) (y ∷ ys) e =
    let p = and_parts (eqb x y) (same_chars xs ys) e in
    rw (eqb-true x y p.0, same_is xs ys p.1)

-- ---- a number that stands in a list

pub stands_append : (n : ℕ) (xs : List ℕ) (x : ℕ) → stands n (xs ++ (x ∷ [])) ≡ stands n xs || eqb n x
unfolding stands
stands_append n [] x = or_false (eqb n x)
stands_append n (y ∷ xs) x = rw (stands_append n xs x, or_assoc)

pub stands-none : (n : ℕ) (ys : List ℕ) → false ≡ stands n (take 0 ys)
unfolding stands
stands-none n ys = refl

pub stands-more : (n : ℕ) (ys : List ℕ) (i : ℕ) (b : Bool) → i < length ys → b ≡ stands n (take i ys) → b || eqb n (get_or ys i 0) ≡ stands n (take (i + 1) ys)
stands-more n ys i b h e = rw (e, add-one, take-suc ys i 0 h) (sym (stands_append n (take i ys) (get_or ys i 0)))

pub stands-whole : (n : ℕ) (ys : List ℕ) (i : ℕ) (b : Bool) → i ≡ length ys → b ≡ stands n (take i ys) → b ≡ stands n ys
stands-whole n ys i b e h = rw (take_all i ys (omega arith)) at h

-- ---- every number of a list

every_append : (f : ℕ → Bool) (xs : List ℕ) (x : ℕ) → every f (xs ++ (x ∷ [])) ≡ every f xs && f x
unfolding every
every_append f [] x = and_true (f x)
every_append f (y ∷ xs) x = rw (every_append f xs x, and_assoc)

pub every-none : (f : ℕ → Bool) → true ≡ every f (up_from 0 0)
unfolding every up_from
every-none f = refl

-- a turn of a loop over the numbers from 0 on
pub every-next : (f : ℕ → Bool) (i : ℕ) (b t : Bool) → b ≡ every f (up_from 0 i) → t ≡ f i → b && t ≡ every f (up_from 0 (i + 1))
every-next f i b t e h = rw (e, h, up_next) (sym (every_append f (up_from 0 i) i))

-- a turn of a loop over a list
pub every-start : (f : ℕ → Bool) (ns : List ℕ) → true ≡ every f (take 0 ns)
unfolding every
every-start f ns = refl

pub every_more : (f : ℕ → Bool) (ns : List ℕ) (i : ℕ) (b t : Bool) → i < length ns → b ≡ every f (take i ns) → t ≡ f (get_or ns i 0) → b && t ≡ every f (take (i + 1) ns)
every_more f ns i b t h e k = rw (e, k, add-one, take-suc ns i 0 h) (sym (every_append f (take i ns) (get_or ns i 0)))

pub every-whole : (f : ℕ → Bool) (ns : List ℕ) (i : ℕ) (b : Bool) → i ≡ length ns → b ≡ every f (take i ns) → b ≡ every f ns
every-whole f ns i b e h = rw (take_all i ns (omega arith)) at h
