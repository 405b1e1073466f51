-- Laws of a table with a mark at the place of each character of a list. Assumes nothing.
use mathlib.Core.Path.{◌≡◌, refl, sym, ap, ◌∙◌}
use Prim.Native.Nat.{ℕ, ◌+◌, ◌<◌}
use native.Mathlib.Omega.{arith}
use mathlib.Core.List.{List}
use mathlib.Core.Bool.{Bool, true, false, ◌||◌}
use lib.ListN.{length, take, get_or, set, replicate, length-replicate, length-set}
use lib.Seq.{take_all, get_or-set_same, get_or-set_other}
use lib.Dec.{eqb}
use borrow.Author.Tests.{eqb-true, eqb-false}
use Rattle.std.proofs.lemmas.List.{get_or-replicate}
use Rattle.model.specs.Believe.{stands}
use Rattle.master.specs.Marked.{Marked}
use Rattle.master.proofs.SameLaws.{or_false, stands-none, stands-more}

or_true : (a : Bool) → a || true ≡ true
or_true true = refl
or_true false = refl

pub marked-none : (ys : List ℕ) (m : List Bool) → m ≡ replicate 256 false → Marked (take 0 ys) m
marked-none ys m e =
    record {
      many = ap length e ∙ length-replicate {A = Bool} 256 false;
      each = λ n h. ap (λ zs. get_or zs n false) e ∙ get_or-replicate 256 n false false h ∙ stands-none n ys;
    }

-- a turn of the loop that marks
module _ (ys : List ℕ) (m : List Bool) (i : ℕ) (h : i < length ys) (o : Marked (take i ys) m) (k : get_or ys i 0 < 256) where
  step : (n : ℕ) → n < 256 → (b : Bool) → eqb n (get_or ys i 0) ≡ b → get_or (set m (get_or ys i 0) true) n false ≡ stands n (take i ys) || b
  step n l true e =
      ap (λ j. get_or (set m (get_or ys i 0) true) j false) (eqb-true n (get_or ys i 0) e)
      ∙ get_or-set_same m (get_or ys i 0) true false (omega (arith, o.many)) ∙ sym (or_true (stands n (take i ys)))
  step n l false e =
      get_or-set_other m (get_or ys i 0) n true false (eqb-false n (get_or ys i 0) e) ∙ o.each n l ∙ sym (or_false (stands n (take i ys)))

  pub marked_more : Marked (take (i + 1) ys) (set m (get_or ys i 0) true)
  marked_more =
      record {
        many = length-set m (get_or ys i 0) true ∙ o.many;
        each = λ n l. step n l _ refl ∙ stands-more n ys i _ h refl;
      }

pub marked-whole : (ys : List ℕ) (m : List Bool) (i : ℕ) → i ≡ length ys → Marked (take i ys) m → Marked ys m
marked-whole ys m i e o = rw (take_all i ys (omega arith)) at o
