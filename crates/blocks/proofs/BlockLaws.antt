-- Laws of the blocks: the ordinals that there are, and what an EXECUTE leaves in each block.
-- Assumes nothing.
use mathlib.Core.Path.{◌≡◌, refl, sym, ap, ◌∙◌}
use mathlib.Core.Logic.{◌⊎◌, inl, inr, ⊎_elim}
use mathlib.Core.Bool.{true, false, cond}
use mathlib.Core.List.{List, []}
use Prim.Native.Nat.{ℕ, ◌+◌, ◌-◌, ◌≤◌}
use native.Mathlib.Omega.{arith}
use lib.ListN.{length, take, drop}
use lib.Dec.{eqb}
use borrow.Author.Tests.{leb-true, ne_eqb}
use Rattle.chars.specs.Put.{put, part}
use Rattle.chars.proofs.PutLaws.{drop-put_in, part-put, part-put-before, part-put-after, part-most}
use Rattle.model.specs.Blocks.{known, ordinal_start, block_of, reaches, executes}
use Rattle.layout.proofs.RegionLaws.{take-put_in}
use Rattle.blocks.specs.Places.{place_of_block}
use Rattle.blocks.specs.declared.Place.TheVariants.{Fixed, Parameters}
use Rattle.std.specs.Prelude.{None, Some}
use Rattle.std.proofs.lemmas.Grind.{common_steps}
use Rattle.model.proofs.Conditions.{by_eqb, and_left, and_right, false-true}

-- ---- a run in an area is a run in the part that holds it

pub part-put_in : (xs : List ℕ) (base size b : ℕ) (ys : List ℕ) → part (put xs (base + b) ys) base size ≡ put (part xs base size) b ys
unfolding part
part-put_in xs base size b ys =
    let e : base + b - base ≡ b = omega arith in
    ap (take size) (drop-put_in base xs (base + b) ys (omega arith) ∙ ap (λ (k : ℕ). put (drop base xs) k ys) e) ∙ take-put_in size (drop base xs) b ys

-- ---- the ordinals that there are

abbrev OneOfThem : ℕ → Type 0
OneOfThem o = (o ≡ 0x00) ⊎ ((o ≡ 0x03) ⊎ ((o ≡ 0x06) ⊎ (o ≡ 0x0B)))

pub is_known : {o : ℕ} → OneOfThem o → known o ≡ true
unfolding known
is_known (inl e) = rw e
is_known (inr (inl e)) = rw e
is_known (inr (inr (inl e))) = rw e
is_known (inr (inr (inr e))) = rw e

pub not_known : {o : ℕ} → (OneOfThem o → ⊥) → known o ≡ false
unfolding known
not_known h =
    simp
    (ne_eqb _ _ (λ e. h (inl e)), ne_eqb _ _ (λ e. h (inr (inl e))), ne_eqb _ _ (λ e. h (inr (inr (inl e)))), ne_eqb _ _ (λ e. h (inr (inr (inr e)))))

-- what each of them has, and any other number, has every number
by_ordinal : (P : ℕ → Type 0) (o : ℕ) → P 0x00 → P 0x03 → P 0x06 → P 0x0B → ((OneOfThem o → ⊥) → P o) → P o
by_ordinal P o a b c d f =
    by_eqb o 0x00 (λ e. rw e a)
    (λ n0.
    by_eqb o 0x03 (λ e. rw e b)
    (λ n3.
    by_eqb o 0x06 (λ e. rw e c)
    (λ n6. by_eqb o 0x0B (λ e. rw e d) (λ n11. f (⊎_elim n0 (⊎_elim n3 (⊎_elim n6 n11)))))))

by_known : (P : ℕ → Type 0) (o : ℕ) → known o ≡ true → P 0x00 → P 0x03 → P 0x06 → P 0x0B → P o
by_known P o h a b c d = by_ordinal P o a b c d (λ n. false-true (sym (not_known n) ∙ h))

pub no_block : (fixed block : List ℕ) {o : ℕ} → (OneOfThem o → ⊥) → block_of fixed block o ≡ []
unfolding block_of
no_block fixed block h =
    simp
    (ne_eqb _ _ (λ e. h (inl e)), ne_eqb _ _ (λ e. h (inr (inl e))), ne_eqb _ _ (λ e. h (inr (inr (inl e)))), ne_eqb _ _ (λ e. h (inr (inr (inr e)))))

-- ---- an EXECUTE that is carried out

module _ (fixed block : List ℕ) (o bias : ℕ) (ys : List ℕ) where
  -- both areas after it
  fixed_after : List ℕ
  fixed_after = cond (eqb o 0x06) fixed (put fixed (ordinal_start o + bias) ys)

  block_after : List ℕ
  block_after = cond (eqb o 0x06) (put block bias ys) block

module _ (fixed block : List ℕ) (bias : ℕ) (ys : List ℕ) where
  Own : ℕ → Type 0
  Own o = block_of (fixed_after fixed block o bias ys) (block_after fixed block o bias ys) o ≡ put (block_of fixed block o) bias ys

  own : (o : ℕ) → known o ≡ true → Own o
  unfolding Own fixed_after block_after block_of ordinal_start
  own o k = by_known Own o k (part-put_in fixed 0 16 bias ys) (part-put_in fixed 16 256 bias ys) refl (part-put_in fixed 272 256 bias ys)

  -- a run within o's block
  Inside : ℕ → Type 0
  Inside o = bias + length ys ≤ length (block_of fixed block o)

  Other : ℕ → ℕ → Type 0
  Other o p = Inside o → (o ≡ p → ⊥) → block_of (fixed_after fixed block o bias ys) (block_after fixed block o bias ys) p ≡ block_of fixed block p

  -- the same ordinal twice; a number that is none
  same : (o : ℕ) → Other o o
  unfolding Other
  same o h n = absurd (n refl)

  none : (o p : ℕ) → (OneOfThem p → ⊥) → Other o p
  unfolding Other
  none o p m h n = no_block _ _ m ∙ sym (no_block fixed block m)

  of_00 : (p : ℕ) → Other 0x00 p
  unfolding Other Inside fixed_after block_after block_of ordinal_start
  of_00 p =
      by_ordinal (Other 0x00) p (same 0x00)
      (λ h n. part-put-after fixed (0 + bias) ys 16 256 (omega (arith, part-most fixed 0 16)))
      (λ h n. refl)
      (λ h n. part-put-after fixed (0 + bias) ys 272 256 (omega (arith, part-most fixed 0 16)))
      (none 0x00 p)

  of_03 : (p : ℕ) → Other 0x03 p
  unfolding Other Inside fixed_after block_after block_of ordinal_start
  of_03 p =
      by_ordinal (Other 0x03) p (λ h n. part-put-before fixed (16 + bias) ys 0 16 (omega arith)) (same 0x03)
      (λ h n. refl)
      (λ h n. part-put-after fixed (16 + bias) ys 272 256 (omega (arith, part-most fixed 16 256)))
      (none 0x03 p)

  of_06 : (p : ℕ) → Other 0x06 p
  unfolding Other Inside fixed_after block_after block_of ordinal_start
  of_06 p = by_ordinal (Other 0x06) p (λ h n. refl) (λ h n. refl) (same 0x06) (λ h n. refl) (none 0x06 p)

  of_0_b : (p : ℕ) → Other 0x0B p
  unfolding Other Inside fixed_after block_after block_of ordinal_start
  of_0_b p =
      by_ordinal (Other 0x0B) p
      (λ h n. part-put-before fixed (272 + bias) ys 0 16 (omega arith))
      (λ h n. part-put-before fixed (272 + bias) ys 16 256 (omega arith))
      (λ h n. refl) (same 0x0B) (none 0x0B p)

  other : (o p : ℕ) → known o ≡ true → Other o p
  other o p k = by_known (λ (x : ℕ). Other x p) o k (of_00 p) (of_03 p) (of_06 p) (of_0_b p)

module _ (fixed block : List ℕ) (o bias n : ℕ) (h : reaches fixed block o bias n ≡ true) where
  reached_known : known o ≡ true
  unfolding reaches
  reached_known = and_left _ _ h

  -- n characters from the bias on do not run out of the block
  pub reached_inside : bias + n ≤ length (block_of fixed block o)
  unfolding reaches
  reached_inside = leb-true _ _ (and_right (known o) _ h)

module _ (fixed block : List ℕ) where
  -- a block of the fixed area ends in it
  Ends : ℕ → Type 0
  Ends o = (o ≡ 0x06 → ⊥) → ordinal_start o + length (block_of fixed block o) ≤ 528

  ends : (o : ℕ) → known o ≡ true → Ends o
  unfolding Ends block_of ordinal_start
  ends o k =
      by_known Ends o k (λ n. omega (arith, part-most fixed 0 16)) (λ n. omega (arith, part-most fixed 16 256)) (λ n. absurd (n refl))
      (λ n. omega (arith, part-most fixed 272 256))

  pub reached_fixed : (o bias n : ℕ) → reaches fixed block o bias n ≡ true → (o ≡ 0x06 → ⊥) → ordinal_start o + bias + n ≤ 528
  unfolding Ends
  reached_fixed o bias n h e =
      omega (arith, reached_inside fixed block o bias n h, ends o (reached_known fixed block o bias n h) e)

-- ---- where they lie

module _ (o : ℕ) where
  pub lies_fixed : (start size : ℕ) → place_of_block o ≡ Some (Fixed start size) → (o ≡ 0x06 → ⊥) × (start ≡ ordinal_start o)
  unfolding ordinal_start
  lies_fixed start size e = grind (arith, common_steps)

  pub lies_apart : place_of_block o ≡ Some Parameters → o ≡ 0x06
  lies_apart e = grind (arith, common_steps)

  pub lies_nowhere : (fixed block : List ℕ) (bias n : ℕ) → place_of_block o ≡ None → reaches fixed block o bias n ≡ false
  unfolding known reaches
  lies_nowhere fixed block bias n e = grind (arith, common_steps)

module _ (fixed block : List ℕ) (o bias : ℕ) (ys : List ℕ) (h : reaches fixed block o bias (length ys) ≡ true) where
  fixed_is : (executes fixed block o bias ys).fixed ≡ fixed_after fixed block o bias ys
  unfolding executes fixed_after
  fixed_is = rw h

  block_is : (executes fixed block o bias ys).block ≡ block_after fixed block o bias ys
  unfolding executes block_after
  block_is = rw h

  there : known o ≡ true
  there = reached_known fixed block o bias (length ys) h

  inside : bias + length ys ≤ length (block_of fixed block o)
  inside = reached_inside fixed block o bias (length ys) h

  -- the ordinal's block has the run from the bias on, and is else as it was
  pub executed-block : block_of (executes fixed block o bias ys).fixed (executes fixed block o bias ys).block o ≡ put (block_of fixed block o) bias ys
  unfolding Own
  executed-block = rw (fixed_is, block_is) (own fixed block bias ys o there)

  -- what was written is read back
  pub executed-back : part (block_of (executes fixed block o bias ys).fixed (executes fixed block o bias ys).block o) bias (length ys) ≡ ys
  executed-back = rw executed-block (part-put (block_of fixed block o) bias ys (length ys) refl inside)

  -- every other ordinal's block is as it was
  pub executed-others : (p : ℕ) → (o ≡ p → ⊥)
      → block_of (executes fixed block o bias ys).fixed (executes fixed block o bias ys).block p ≡ block_of fixed block p
  unfolding Other Inside
  executed-others p n = rw (fixed_is, block_is) (other fixed block bias ys o p there inside n)
