-- What a contact that is given a state, and a reply that carried its group, leave of a group; and that no other event does. Assumes nothing.
use Prim.Native.Nat.{ℕ, zero, suc, ◌+◌, ◌<◌, ◌≤◌}
use mathlib.Core.Path.{◌≡◌, refl, sym, ap, ◌∙◌}
use mathlib.Core.List.{List, [], ◌∷◌}
use mathlib.Core.Bool.{Bool, true, false, cond, not, ◌&&◌}
use native.Mathlib.Omega.{arith}
use lib.ListN.{length, get_or, set, get_or-eq_default}
use lib.Seq.{get_or-set_same, get_or-set_other, set_out}
use lib.Dec.{eqb, ltb}
use borrow.Author.Tests.{eqb-true, eqb-false, lt-ltb, ltb-true, ltb-false, leb-true}
use Rattle.model.specs.Frame.{Request}
use Rattle.model.specs.Config.{Config, has, within, two_bit, accumulator}
use Rattle.model.specs.State.{Areas, Inner}
use Rattle.model.specs.Scan.{counts}
use Rattle.model.specs.Inputs.{Changed, settable, has_accumulator, set_word_of, pulses_of, reset_count_of}
use Rattle.model.specs.Contacts.{bit_in, with_bit, word_after, changed_after, asks_for, groups_carried, anew, unmarked, untallied}
use Rattle.model.specs.Blocks.{Executed}
use Rattle.model.specs.Control.{breaks}
use Rattle.model.specs.Step.{Step, with_words, scanned, changed, controlled, timed, written, executed, internal_of, return_of, other_of, Stepped, alone, broken_off, telling, initial_step, internal_step, step_of, broadcast_of}
use Rattle.model.specs.Tally.{Tally, given, started_over, is_in}
use Rattle.model.proofs.Conditions.{by_cond, by_bool, and_left, and_right, false-true}
use Rattle.model.specs.declared.Core.{Core}
use Rattle.model.proofs.BitLaws.{bit-same, bit-other, bit-nothing, bit-low, bit_high}

-- ---- a group's numbers

-- every other bit is as it was
pub word-other : (w b i s k : ℕ) → s < 2 → (i ≡ k → ⊥) → (8 + i ≡ k → ⊥) → bit_in (word_after w b i s) k ≡ bit_in w k
unfolding word_after
word-other w b i s k l p q =
    by_cond (λ (x : ℕ). bit_in x k ≡ bit_in w k) (eqb (bit_in w i) s) (λ e. refl)
    (λ e. bit-other _ i k s l p
    ∙ by_cond (λ (x : ℕ). bit_in x k ≡ bit_in w k) (eqb (bit_in b i) 1) (λ f. bit-other w (8 + i) k 1 (omega arith) q) (λ f. refl))

pub changed-other : (w b i s k : ℕ) → (i ≡ k → ⊥) → bit_in (changed_after w b i s) k ≡ bit_in b k
unfolding changed_after
changed-other w b i s k p =
    by_cond (λ (x : ℕ). bit_in x k ≡ bit_in b k) (eqb (bit_in w i) s) (λ e. refl) (λ e. bit-other b i k 1 (omega arith) p)

-- what a group's two numbers tell of the contact at place i
pub record Told (w b i : ℕ) (t : Tally) : Type 0 where
  pub state : bit_in w i ≡ t.state
  pub mark : bit_in w (8 + i) ≡ cond (ltb 1 t.changes) 1 0
  pub once : bit_in b i ≡ cond (ltb 0 t.changes) 1 0

-- the mark is set by the second change
marked : (w b i s n : ℕ) → s < 2 → bit_in w (8 + i) ≡ cond (ltb 1 n) 1 0 → bit_in b i ≡ cond (ltb 0 n) 1 0
    → bit_in (with_bit (cond (eqb (bit_in b i) 1) (with_bit w (8 + i) 1) w) i s) (8 + i) ≡ cond (ltb 1 (suc n)) 1 0
marked w b i s zero l m o =
    let f : eqb (bit_in b i) 1 ≡ false = ap (λ (x : ℕ). eqb x 1) o in
    rw f (bit-other w i (8 + i) s l (λ e. omega arith) ∙ m)
marked w b i s (suc n) l m o =
    let z : ltb 0 (suc n) ≡ true = lt-ltb 0 (suc n) (omega arith) in
    let f : eqb (bit_in b i) 1 ≡ true = ap (λ (x : ℕ). eqb x 1) (rw z at o) in
    rw (f, lt-ltb 1 (suc (suc n)) (omega arith)) (bit-other _ i (8 + i) s l (λ e. omega arith) ∙ bit-same w (8 + i) 1 (omega arith))

pub given-told : (w b i s : ℕ) (t : Tally) → s < 2 → Told w b i t → Told (word_after w b i s) (changed_after w b i s) i (given s t)
unfolding word_after changed_after given
given-told w b i s t l h =
    by_bool (eqb (bit_in w i) s) (λ e. let f : eqb t.state s ≡ true = ap (λ (x : ℕ). eqb x s) (sym h.state) ∙ e in rw (e, f) h)
    (λ e. let f : eqb t.state s ≡ false = ap (λ (x : ℕ). eqb x s) (sym h.state) ∙ e in
    rw (e, f)
    (record { state = bit-same _ i s l; mark = marked w b i s t.changes l h.mark h.once; once = bit-same b i 1 (omega arith) ∙ rw (lt-ltb 0 (suc t.changes) (omega arith)) refl }))

pub anew-told : (w b i : ℕ) (t : Tally) → i < 8 → Told w b i t → Told (unmarked w) (untallied b) i (started_over t)
unfolding unmarked untallied
anew-told w b i t h k = record { state = bit-low w i h ∙ k.state; mark = bit_high w i; once = bit-nothing i }

-- ---- groups that start anew

module _ (f : ℕ → ℕ) (none : f 0 ≡ 0) (twice : (x : ℕ) → f (f x) ≡ f x) where
  set_at : (xs : List ℕ) (g : ℕ) → get_or (set xs g (f (get_or xs g 0))) g 0 ≡ f (get_or xs g 0)
  set_at xs g =
      by_bool (ltb g (length xs)) (λ e. get_or-set_same xs g _ 0 (ltb-true g (length xs) e))
      (λ e.
      let z : get_or xs g 0 ≡ 0 = get_or-eq_default xs 0 {n = g} (ltb-false g (length xs) e) in
      ap (λ (l : List ℕ). get_or l g 0) (set_out xs g _ (ltb-false g (length xs) e)) ∙ z ∙ sym (ap f z ∙ none))

  pub anew_at : (gs xs : List ℕ) (g : ℕ) → get_or (anew f gs xs) g 0 ≡ cond (is_in g gs) (f (get_or xs g 0)) (get_or xs g 0)
  unfolding anew is_in
  anew_at [] xs g = refl
  anew_at (h ∷ hs) xs g =
      anew_at hs _ g
      ∙ by_bool (eqb h g)
      (λ e. let z = eqb-true h g e in
      rw (e, z, set_at xs g, twice) (by_cond (λ (x : ℕ). x ≡ f (get_or xs g 0)) (is_in g hs) (λ i. refl) (λ i. refl)))
      (λ e. rw (e, get_or-set_other xs h g (f (get_or xs h 0)) 0 (λ p. eqb-false h g e (sym p))))

pub unmarked_twice : (x : ℕ) → unmarked (unmarked x) ≡ unmarked x
unfolding unmarked
unmarked_twice x = omega arith

pub untallied_twice : (x : ℕ) → untallied (untallied x) ≡ untallied x
unfolding untallied
untallied_twice x = refl

-- ---- what a function leaves of the groups

pub record Spares (a b : Areas) : Type 0 where
  pub words : (g : ℕ) → g < 32 → get_or b.words g 0 ≡ get_or a.words g 0
  pub changed : b.changed ≡ a.changed

same : (a : Areas) → Spares a a
same a = record { words = λ g h. refl; changed = refl }

-- a word from 20h on is no group
set_spares : (xs : List ℕ) (m v g : ℕ) → 32 ≤ m → g < 32 → get_or (set xs m v) g 0 ≡ get_or xs g 0
set_spares xs m v g h k = get_or-set_other xs m g v 0 (λ e. omega arith)

accumulator-high : (table : List ℕ) (m : ℕ) → has_accumulator table m ≡ true → 32 ≤ m
unfolding has_accumulator accumulator within
accumulator-high table m e = let h : 0x40 ≤ m = leb-true 0x40 m (and_left _ _ (and_left _ _ e)) in omega arith

not-true : (b : Bool) → not b ≡ true → b ≡ false
not-true false e = refl
not-true true e = sym e

settable-high : (n : ℕ) → settable n ≡ true → 32 ≤ n
unfolding settable two_bit
settable-high n e = ltb-false n 32 (not-true (ltb n 32) (and_right (not (accumulator n)) _ e))

pub WordsSpared : List ℕ → Changed → Type 0
WordsSpared xs r = (g : ℕ) → g < 32 → get_or r.area g 0 ≡ get_or xs g 0

module _ (table xs : List ℕ) where
  reset_spares : (q : Request) → WordsSpared xs (reset_count_of table xs q)
  unfolding WordsSpared reset_count_of
  reset_spares q =
      by_cond (WordsSpared xs) (counts 1 q)
      (λ e. by_cond (WordsSpared xs) (has_accumulator table (get_or q.body 0 0)) (λ a g h. set_spares xs _ _ g (accumulator-high table _ a) h) (λ a g h. refl))
      (λ e g h. refl)

  pub pulses_spares : (n p : ℕ) → WordsSpared xs (pulses_of table xs n p)
  unfolding WordsSpared pulses_of
  pulses_spares n p = by_cond (WordsSpared xs) (has_accumulator table n) (λ a g h. set_spares xs n _ g (accumulator-high table n a) h) (λ a g h. refl)

  pub set-word_spares : (n w : ℕ) → WordsSpared xs (set_word_of table xs n w)
  unfolding WordsSpared set_word_of
  set-word_spares n w =
      by_cond (WordsSpared xs) (has table n && settable n)
      (λ e g h. set_spares xs n w g (settable-high n (and_right (has table n) _ e)) h) (λ e g h. refl)

pub spared : (a : Areas) (r : Changed) → WordsSpared a.words r → Spares a (with_words a r.area)
unfolding WordsSpared
spared a r h = record { words = h; changed = refl }

-- ---- a frame

module _ (c : Config) (i : Inner) (lag : ℕ) (q : Request) where
  abbrev a : Areas
  a = i.areas

  Keeps : Step → Type 0
  Keeps p = Spares a p.areas

  keeps : (p : Step) → p.areas ≡ a → Keeps p
  unfolding Keeps
  keeps p e = rw e (same a)

  reset-keeps : (k : Core) → Keeps (changed k a (reset_count_of c.inputs a.words q))
  unfolding Keeps changed
  reset-keeps k = spared a _ (reset_spares c.inputs a.words q)

  execute-keeps : (k : Core) (r : Executed) → Keeps (executed c.inputs k a r)
  unfolding Keeps executed
  execute-keeps k r = record { words = λ g h. refl; changed = refl }

  internal_keeps : (k : Core) → Keeps (internal_of c k a lag q)
  unfolding internal_of scanned timed written
  internal_keeps k =
      by_cond Keeps (eqb q.command 0x11) (λ e. reset-keeps k)
      (λ e. by_cond Keeps (eqb q.command 0x30) (λ e. keeps _ refl)
      (λ e. by_cond Keeps (eqb q.command 0x31) (λ e. execute-keeps k _)
      (λ e. by_cond Keeps (eqb q.command 0x38) (λ e. keeps _ refl) (λ e. keeps _ refl))))

  broadcast_keeps : (k : Core) → Keeps (broadcast_of c k a lag q)
  unfolding broadcast_of scanned timed
  broadcast_keeps k =
      by_cond Keeps (eqb q.function 0x20 && eqb q.command 0x11) (λ e. reset-keeps k)
      (λ e. by_cond Keeps (eqb q.function 0x20 && eqb q.command 0x38) (λ e. keeps _ refl) (λ e. keeps _ refl))

  pub broadcast_spares : (k : Core) → Spares a (broadcast_of c k a lag q).areas
  unfolding Keeps
  broadcast_spares k = broadcast_keeps k

  -- every function but 20h leaves the areas
  Stays : Step → Type 0
  Stays p = p.areas ≡ a

  other-stays : (k : Core) → Stays (other_of c k a q)
  unfolding Stays other_of return_of scanned controlled
  other-stays k =
      by_cond Stays (eqb q.function 0x00) (λ e. refl)
      (λ e. by_cond Stays (eqb q.function 0x03) (λ e. refl)
      (λ e. by_cond Stays (eqb q.function 0x0A) (λ e. refl)
      (λ e. by_cond Stays (eqb q.function 0x10) (λ e. refl)
      (λ e. by_cond Stays (eqb q.function 0x28)
      (λ e. by_cond Stays (eqb q.command 0x30) (λ e. refl) (λ e. by_cond Stays (eqb q.command 0x31) (λ e. refl) (λ e. refl)))
      (λ e. refl)))))

  -- what a frame leaves: the groups, and the areas where the function is not 20h
  pub record Leaves (m : Stepped) : Type 0 where
    pub groups : Spares a m.step.areas
    pub areas : eqb q.function 0x20 ≡ false → m.step.areas ≡ a

  leaves : (m : Stepped) → m.step.areas ≡ a → Leaves m
  leaves m e = record { groups = rw e (same a); areas = λ n. e }

  internal_leaves : eqb q.function 0x20 ≡ true → Leaves (internal_step c i lag q)
  unfolding internal_step initial_step alone scanned Keeps
  internal_leaves f =
      by_cond Leaves (eqb q.command 0x00) (λ e. by_cond Leaves (counts 0 q) (λ e. leaves _ refl) (λ e. leaves _ refl))
      (λ e. record { groups = internal_keeps i.core; areas = λ n. false-true (sym n ∙ f) })

  pub step-leaves : Leaves (step_of c i lag q)
  unfolding step_of alone telling broken_off scanned Stays
  step-leaves =
      by_cond Leaves (breaks i.core.hold q) (λ e. leaves _ refl)
      (λ e. by_cond Leaves (eqb q.function 0x04) (λ e. leaves _ refl)
      (λ e. by_cond Leaves (eqb q.function 0x20) internal_leaves (λ e. leaves _ (other-stays i.core))))

  -- the groups that it carried, by the tables that it found
  pub carried_same : groups_carried c.inputs (step_of c i lag q).step.areas.fixed q ≡ groups_carried c.inputs a.fixed q
  unfolding groups_carried asks_for
  carried_same =
      by_bool (eqb q.function 0x20) (λ e. rw (eqb-true q.function 0x20 e))
      (λ e. rw (step-leaves.areas e))
