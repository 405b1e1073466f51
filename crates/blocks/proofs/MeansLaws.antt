-- The fixed area in a unit's memory: a run written there, the whole written anew, and what the memory means after an EXECUTE.
-- Assumes nothing.
use mathlib.Core.Path.{◌≡◌, refl, sym, ap, ◌∙◌}
use mathlib.Core.Bool.{Bool, true, false, cond}
use mathlib.Core.List.{List, [], ◌∷◌}
use Prim.Native.Nat.{ℕ, zero, suc, ◌+◌, ◌≤◌}
use native.Mathlib.Nat.{suc-add, zero-add, add-zero}
use native.Mathlib.Omega.{arith}
use lib.ListN.{length, take}
use lib.Dec.{eqb}
use Rattle.chars.specs.Put.{put, part}
use Rattle.chars.proofs.PutLaws.{length-put, put-own, put_all, part-most}
use Rattle.model.specs.Limits.{most_asked}
use Rattle.model.specs.Frame.{Request, master_of}
use Rattle.model.specs.Config.{within}
use Rattle.model.specs.Control.{is_of}
use Rattle.model.specs.Blocks.{Executed, ordinal_start, reaches, not_executed, executes, execute_when, execute_of}
use Rattle.model.specs.declared.Outcome.{Outcome}
use Rattle.model.specs.declared.Outcome.TheVariants.{WrongCount, NotValid, NothingWaits, WriteHeld}
use Rattle.std.specs.Prelude.{None, Option, Some}
use Rattle.model.specs.declared.Write.{Write}
use Rattle.model.proofs.Conditions.{by_cond}
use Rattle.layout.specs.Unit.{unit_sizes, region_start, fixed_region, unit_in, set_fixed, put_fixed}
use Rattle.layout.proofs.UnitLaws.{put_in_lem, length-put_in, fixed_is, fixed-written}
use Rattle.blocks.specs.Answers.{ExecutesAs}
use Rattle.blocks.specs.declared.Executed as answer

-- ---- a run in a part of a list, and the part written back, are the run in the list

front_part : (xs : List ℕ) (n at : ℕ) (ys : List ℕ) → at + length ys ≤ n → put xs 0 (put (take n xs) at ys) ≡ put xs at ys
unfolding put part
front_part [] n at ys h = refl
front_part (x ∷ xs) zero zero [] h = refl
front_part (x ∷ xs) zero zero (y ∷ ys) h = absurd (omega arith)
front_part (x ∷ xs) zero (suc at) ys h = absurd (omega arith)
front_part (x ∷ xs) (suc n) zero [] h = put-own (x ∷ xs) zero (suc n)
front_part (x ∷ xs) (suc n) zero (y ∷ ys) h = ap (λ (l : List ℕ). y ∷ l) (front_part xs n zero ys (omega arith))
front_part (x ∷ xs) (suc n) (suc at) ys h = ap (λ (l : List ℕ). x ∷ l) (front_part xs n at ys (omega arith))

put-part : (xs : List ℕ) (base size at : ℕ) (ys : List ℕ) → at + length ys ≤ size → put xs base (put (part xs base size) at ys) ≡ put xs (base + at) ys
unfolding put part
put-part [] base size at ys h = refl
put-part (x ∷ xs) zero size at ys h = rw zero-add (front_part (x ∷ xs) size at ys h)
put-part (x ∷ xs) (suc base) size at ys h = rw suc-add (ap (λ (l : List ℕ). x ∷ l) (put-part xs base size at ys h))

-- ---- the fixed area, whatever the memory

module _ (u : List ℕ) where
  fixed-most : length (unit_in u).fixed ≤ 528
  fixed-most = rw (fixed_is u) (part-most _ _ _)

  put-fixed_is : (at : ℕ) (ys : List ℕ) → at + length ys ≤ 528 → put_fixed u at ys ≡ put u (region_start fixed_region + at) ys
  unfolding unit_sizes
  put-fixed_is at ys h = put_in_lem u fixed_region at ys h

  -- a run in it, and the whole with that run
  pub fixed-put : (at : ℕ) (ys : List ℕ) → at + length ys ≤ 528 → put_fixed u at ys ≡ put_fixed u 0 (put (unit_in u).fixed at ys)
  fixed-put at ys h =
      put-fixed_is at ys h
      ∙ sym (put-part u (region_start fixed_region) 528 at ys h)
      ∙ ap (λ (l : List ℕ). put u (region_start fixed_region) (put l at ys)) (sym (fixed_is u))
      ∙ ap (λ (s : ℕ). put u s (put (unit_in u).fixed at ys)) (sym (add-zero _))
      ∙ sym (put-fixed_is 0 (put (unit_in u).fixed at ys) (omega (arith, length-put (unit_in u).fixed at ys, fixed-most)))

  fixed-anew : (ys : List ℕ) → length ys ≡ length (unit_in u).fixed → unit_in (put_fixed u 0 ys) ≡ set_fixed (unit_in u) ys
  fixed-anew ys e =
      fixed-written u 0 ys (omega (arith, fixed-most)) ∙ ap (set_fixed (unit_in u)) (put_all (unit_in u).fixed ys (sym e))

-- ---- an EXECUTE

module _ (fixed block : List ℕ) where
  -- the fixed area is as long as it was
  Kept : Executed → Type 0
  Kept m = length m.fixed ≡ length fixed

  kept : (m : Executed) → length m.fixed ≡ length fixed → Kept m
  unfolding Kept
  kept m e = e

  or_put : (b : Bool) (at : ℕ) (ys : List ℕ) → length (cond b fixed (put fixed at ys)) ≡ length fixed
  or_put true at ys = refl
  or_put false at ys = length-put fixed at ys

  not-executed : (o : Outcome) → Kept (not_executed o fixed block)
  unfolding not_executed
  not-executed o = kept _ refl

  executes-kept : (o bias : ℕ) (ys : List ℕ) → Kept (executes fixed block o bias ys)
  unfolding executes
  executes-kept o bias ys =
      by_cond Kept (reaches fixed block o bias (length ys)) (λ e. kept _ (or_put (eqb o 0x06) (ordinal_start o + bias) ys)) (λ e. not-executed NotValid)

  when_kept : (p : Option Write) (q : Request) → Kept (execute_when p fixed block q)
  unfolding execute_when
  when_kept None q = not-executed NothingWaits
  when_kept (Some w) q =
      by_cond Kept (is_of w.master (master_of q.address)) (λ e. executes-kept w.ordinal.0 w.bias q.body) (λ e. not-executed WriteHeld)

  execute-kept : (p : Option Write) (q : Request) → Kept (execute_of p fixed block q)
  unfolding execute_of
  execute-kept p q = by_cond Kept (within 1 most_asked (length q.body)) (λ e. when_kept p q) (λ e. not-executed WrongCount)

-- what the memory means after it, and how long it is
pub executed-means : (u v block block' : List ℕ) (p : Option Write) (q : Request) (r : answer.Executed)
    → ExecutesAs u (execute_of p (unit_in u).fixed block q) v block' r
    → (unit_in v ≡ set_fixed (unit_in u) (execute_of p (unit_in u).fixed block q).fixed) × (length v ≡ length u)
unfolding Kept
executed-means u v block block' p q r a = (
  ap unit_in a.left ∙ fixed-anew u _ (execute-kept (unit_in u).fixed block p q),
  ap length a.left ∙ length-put_in u fixed_region 0 _,
)
