-- Laws of the answers: what the code gives, as equations, is what the definitions ask. Assumes nothing.
use mathlib.Core.Path.{◌≡◌, refl, sym, ap, ◌∙◌}
use mathlib.Core.Bool.{Bool, true, false}
use mathlib.Core.List.{List}
use Prim.Native.Nat.{ℕ, ◌+◌, ◌≤◌}
use native.Mathlib.Omega.{arith}
use lib.ListN.{length, get_or}
use lib.Dec.{eqb}
use borrow.Author.Tests.{eq-eqb, ne_eqb}
use Rattle.chars.specs.Put.{put, part}
use Rattle.chars.specs.Word.{word_at}
use Rattle.chars.proofs.PutLaws.{length_part, part-whole}
use Rattle.model.specs.Limits.{reply_head}
use Rattle.model.specs.Frame.{Request}
use Rattle.model.specs.Scan.{Fills, counts}
use Rattle.model.specs.Blocks.{ordinal_start, block_of, reaches, not_executed, executes, read_of}
use Rattle.model.specs.declared.Outcome.{Outcome}
use Rattle.model.specs.declared.Outcome.TheVariants.{Done, NotValid}
use Rattle.layout.specs.Unit.{unit_in, put_fixed}
use Rattle.layout.proofs.UnitLaws.{fixed-own}
use Rattle.blocks.specs.Answers.{ExecutesAs}
use Rattle.blocks.specs.declared.Executed.{Executed}
use Rattle.blocks.proofs.BlockLaws.{reached_inside, reached_fixed}
use Rattle.blocks.proofs.MeansLaws.{fixed-put}

-- a test of the fixed area as it was lent is one of the unit's memory
pub judged_as : (u found block : List ℕ) (o bias n : ℕ) (b t : Bool) → found ≡ (unit_in u).fixed → b ≡ reaches found block o bias n → b ≡ t
    → reaches (unit_in u).fixed block o bias n ≡ t
judged_as u found block o bias n b t e r h = rw (← e) (sym r ∙ h)

-- ---- EXECUTE

pub refused_as : (o : Outcome) (u block : List ℕ) (r : Executed) → r ≡ record { outcome = o; configures = false; clears = false }
    → ExecutesAs u (not_executed o (unit_in u).fixed block) u block r
unfolding not_executed
refused_as o u block r e = rw e (record { ended = refl; configured = refl; cleared = refl; left = sym (fixed-own u); block-left = refl })

abbrev Accepted : ℕ → Executed → Type 0
Accepted o r = r ≡ record { outcome = Done; configures = eqb o 0x03; clears = eqb o 0x00 }

module _ (u block : List ℕ) (o bias : ℕ) (ys : List ℕ) (r : Executed) where
  pub not-stored : reaches (unit_in u).fixed block o bias (length ys) ≡ false → r ≡ record { outcome = NotValid; configures = false; clears = false }
      → ExecutesAs u (executes (unit_in u).fixed block o bias ys) u block r
  unfolding executes
  not-stored h e = rw h (refused_as NotValid u block r e)

  pub stored-block : (exit : List ℕ) → reaches (unit_in u).fixed block o bias (length ys) ≡ true → o ≡ 0x06
      → exit ≡ put block bias (part ys 0 (length ys)) → Accepted o r
      → ExecutesAs u (executes (unit_in u).fixed block o bias ys) u exit r
  unfolding executes
  stored-block exit h e k a =
      simp (h, eq-eqb _ _ e, a)
      (record {
        ended = refl;
        configured = refl;
        cleared = refl;
        left = sym (fixed-own u);
        block-left = k ∙ ap (put block bias) (part-whole ys (length ys) refl);
      })

  pub stored-fixed : (v : List ℕ) (base : ℕ) → reaches (unit_in u).fixed block o bias (length ys) ≡ true → (o ≡ 0x06 → ⊥) → base ≡ ordinal_start o
      → v ≡ put_fixed u (base + bias) ys → Accepted o r
      → ExecutesAs u (executes (unit_in u).fixed block o bias ys) v block r
  unfolding executes
  stored-fixed v base h e b k a =
      let inside : base + bias + length ys ≤ 528 = omega (arith, reached_fixed _ _ _ _ _ h e) in
      simp (h, ne_eqb _ _ e, a)
      (record {
        ended = refl;
        configured = refl;
        cleared = refl;
        left = k ∙ fixed-put u (base + bias) ys inside ∙ ap (λ (n : ℕ). put_fixed u 0 (put (unit_in u).fixed (n + bias) ys)) b;
        block-left = refl;
      })

-- ---- READ

-- the characters asked for
pub found_as : (fixed block : List ℕ) (q : Request) (entry exit found : List ℕ) (bias n : ℕ) → length q.body ≡ 4 → bias ≡ word_at q.body 0
    → reaches fixed block (get_or q.body 2 0) bias (get_or q.body 3 0) ≡ true
    → found ≡ part (block_of fixed block (get_or q.body 2 0)) bias (get_or q.body 3 0)
    → n ≡ get_or q.body 3 0
    → exit ≡ put entry reply_head (part found 0 n)
    → Fills entry exit (read_of fixed block q) (record { outcome = Done; count = n })
unfolding read_of counts
found_as fixed block q entry exit found bias n l b h f c k =
    let inside : bias + get_or q.body 3 0 ≤ length (block_of fixed block (get_or q.body 2 0)) = reached_inside _ _ _ _ _ h in
    let long : length found ≡ get_or q.body 3 0 = ap length f ∙ length_part _ _ _ inside in
    simp (eq-eqb _ _ l, sym b, h)
    (record { ended = refl; counted = c ∙ sym long ∙ ap length f; written = k ∙ ap (put entry reply_head) (part-whole found n (c ∙ sym long) ∙ f) })
