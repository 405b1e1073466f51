-- What function 28h says is such as a master believes, over any clock that fits and the areas of a unit. Assumes nothing.
use Prim.Native.Nat.{ℕ, ◌+◌, ◌≤◌}
use mathlib.Core.Path.{◌≡◌, refl, sym, ◌∙◌}
use mathlib.Core.List.{List, []}
use mathlib.Core.Bool.{Bool, true, false, cond, ◌&&◌, ◌||◌}
use lib.ListN.{length, get_or, take}
use lib.Seq.{take_all}
use lib.Dec.{eqb}
use native.Mathlib.Omega.{arith}
use borrow.Author.Tests.{eqb-true, leb-true, eq-eqb, ne_eqb, le-leb}
use Rattle.chars.specs.Put.{part}
use Rattle.chars.specs.Word.{Characters, word_at}
use Rattle.chars.proofs.PutLaws.{length_part, part-most}
use Rattle.model.specs.Frame.{Request}
use Rattle.model.specs.State.{Areas}
use Rattle.model.specs.Scan.{tells, counts, with_no_data}
use Rattle.model.specs.Blocks.{known, block_of, reaches, returned, read_of}
use Rattle.model.specs.Clock.{clock_fits, time_chars, read_time_of}
use Rattle.model.specs.Ask.{asks_return}
use Rattle.model.specs.Believe.{longest_block, shortest_block, end_of, some_serve, all_serve, tells_return}
use Rattle.model.specs.Step.{scanned, return_of}
use Rattle.model.specs.declared.Outcome.TheVariants.{NotValid}
use Rattle.model.specs.declared.Core.{Core}
use Rattle.model.proofs.Conditions.{by_cond, by_bool, and_left, and_right, and_both, or_cases, false-true}
use Rattle.model.proofs.SetTime.{good_time_lem}
use Rattle.model.proofs.Asking.{counted}
use Rattle.model.proofs.Keeping.{same_refl}
use Rattle.model.proofs.Telling.{Answers, told, declined, tell_return, refuse_return}

-- ---- how long a block is

module _ (fixed block : List ℕ) where
  block-most : length block ≤ 512 → (o : ℕ) → length (block_of fixed block o) ≤ longest_block o
  unfolding block_of longest_block
  block-most l o = go (eqb o 0x06) (eqb o 0x00) (eqb o 0x03) (eqb o 0x0B) refl refl
    where
      go : (six none three eleven : Bool) → eqb o 0x06 ≡ six → eqb o 0x00 ≡ none
          → length (cond six block (cond none (part fixed 0 16) (cond three (part fixed 16 256) (cond eleven (part fixed 272 256) [])))) ≤ cond none 16 (cond six 512 256)
      go true true t u a b = absurd (omega (arith, eqb-true o 0x06 a, eqb-true o 0x00 b))
      go true false t u a b = l
      go false true t u a b = part-most fixed 0 16
      go false false true u a b = part-most fixed 16 256
      go false false false true a b = part-most fixed 272 256
      go false false false false a b = omega arith

  block_least : length fixed ≡ 528 → (o : ℕ) → known o ≡ true → shortest_block o ≤ length (block_of fixed block o)
  unfolding block_of shortest_block known
  block_least l o k = go (eqb o 0x06) (eqb o 0x00) (eqb o 0x03) (eqb o 0x0B) refl refl k
    where
      go : (six none three eleven : Bool) → eqb o 0x06 ≡ six → eqb o 0x00 ≡ none → (none || (three || (six || eleven))) ≡ true
          → cond none 16 (cond six 0 256) ≤ length (cond six block (cond none (part fixed 0 16) (cond three (part fixed 16 256) (cond eleven (part fixed 272 256) []))))
      go true true t u a b h = absurd (omega (arith, eqb-true o 0x06 a, eqb-true o 0x00 b))
      go true false t u a b h = omega arith
      go false true t u a b h = omega (arith, length_part fixed 0 16 (omega arith))
      go false false true u a b h = omega (arith, length_part fixed 16 256 (omega arith))
      go false false false true a b h = omega (arith, length_part fixed 272 256 (omega arith))
      go false false false false a b h = false-true h

-- ---- 28h/30h

module _ (fixed block : List ℕ) (q : Request) (e : q.function ≡ 0x28) (m : q.command ≡ 0x30) (n : counts 4 q ≡ true) (low : Characters q.body) where
  abbrev o : ℕ
  o = get_or q.body 2 0

  abbrev bias : ℕ
  bias = word_at q.body 0

  abbrev quantity : ℕ
  quantity = get_or q.body 3 0

  reached : reaches fixed block o bias quantity ≡ true → bias + quantity ≤ length (block_of fixed block o)
  unfolding reaches
  reached h = leb-true _ _ (and_right (known o) _ h)

  some_serve_lem : length block ≤ 512 → reaches fixed block o bias quantity ≡ true → some_serve q.body ≡ true
  unfolding some_serve end_of reaches
  some_serve_lem l h = and_both (and_left (known o) _ h) (le-leb (bias + quantity) (longest_block o) (omega (arith, reached h, block-most fixed block l o)))

  -- a part that every unit has is served
  all_reached : length fixed ≡ 528 → all_serve q.body ≡ true → reaches fixed block o bias quantity ≡ true
  unfolding all_serve end_of reaches
  all_reached l h =
      let k = and_left (known o) _ h in
      and_both k (le-leb (bias + quantity) (length (block_of fixed block o)) (omega (arith, leb-true (bias + quantity) (shortest_block o) (and_right (known o) _ h), block_least fixed block l o k)))

  part-told : length block ≤ 512 → reaches fixed block o bias quantity ≡ true → Answers q (tells (part (block_of fixed block o) bias quantity))
  unfolding tells_return
  part-told l h =
      let ys = part (block_of fixed block o) bias quantity in
      let k : length ys ≡ quantity = length_part (block_of fixed block o) bias quantity (reached h) in
      told q ys (omega (arith, low 3))
      (tell_return q ys e ∙ rw (eq-eqb q.command 0x30 m) (and_both (eq-eqb (length ys) quantity k) (some_serve_lem l h)))

  part-refused : length fixed ≡ 528 → reaches fixed block o bias quantity ≡ false → Answers q (returned NotValid q)
  unfolding returned part
  part-refused l h =
      let k : take 128 q.body ≡ q.body = take_all 128 q.body (omega (arith, counted 4 q n)) in
      let a : all_serve q.body ≡ false = by_bool (all_serve q.body) (λ x. false-true (sym h ∙ all_reached l x)) (λ x. x) in
      rw k
      (declined q q.body NotValid refl (omega (arith, counted 4 q n))
      (refuse_return q q.body e ∙ and_both (eq-eqb q.command 0x30 m) (and_both (same_refl q.body) (rw a refl))))

  read_answer : length fixed ≡ 528 → length block ≤ 512 → Answers q (read_of fixed block q)
  unfolding read_of
  read_answer f b = rw n (by_cond (Answers q) (reaches fixed block o bias quantity) (part-told b) (part-refused f))

-- ---- function 28h

module _ (k : Core) (a : Areas) (q : Request) (e : q.function ≡ 0x28) (clock : clock_fits k.clock ≡ true) where
  -- 28h/31h
  clock-answer : q.command ≡ 0x31 → counts 0 q ≡ true → Answers q (read_time_of k.clock q)
  unfolding read_time_of with_no_data
  clock-answer m n =
      rw n
      (told q (time_chars k.clock) (unfold time_chars in omega arith)
      (tell_return q (time_chars k.clock) e ∙ (unfold tells_return in rw (ne_eqb q.command 0x30 (λ z. omega arith)) (good_time_lem k.clock clock))))

  pub return_answer : asks_return q ≡ true → Characters q.body → length a.fixed ≡ 528 → length a.block ≤ 512 → Answers q (return_of k a q).says
  unfolding asks_return return_of scanned
  return_answer h low f b =
      or_cases (eqb q.command 0x30 && counts 4 q) _ h
      (λ x.
      let m = eqb-true q.command 0x30 (and_left (eqb q.command 0x30) _ x) in
      rw (eq-eqb q.command 0x30 m) (read_answer a.fixed a.block q e m (and_right (eqb q.command 0x30) _ x) low f b))
      (λ x.
      let m = eqb-true q.command 0x31 (and_left (eqb q.command 0x31) _ x) in
      rw (ne_eqb q.command 0x30 (λ z. omega arith), eq-eqb q.command 0x31 m) (clock-answer m (and_right (eqb q.command 0x31) _ x)))
