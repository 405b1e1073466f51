-- Laws of pairs: when a stretch is heard as what, what the two frames of a pair show, and damage that is heard as neither frame nor pair.
-- Assumes nothing.
use mathlib.Core.Path.{◌≡◌, refl, sym, ap, ap₂, ◌∙◌}
use mathlib.Core.Logic.{◌⊎◌, inl, inr}
use Prim.Native.Nat.{ℕ, ◌+◌, ◌<◌, ◌≤◌}
use native.Mathlib.Omega.{arith}
use mathlib.Core.List.{List}
use mathlib.Core.Bool.{true, false, and-false}
use lib.ListN.{length, get_or, take, drop, length-drop}
use lib.Seq.{get_or-take, get_or-drop, length-take-le}
use lib.Dec.{eqb}
use borrow.Author.Tests.{eqb-true, eq-eqb, ne_eqb}
use Rattle.chars.specs.Word.{Characters, word_at}
use Rattle.chars.proofs.WordLaws.{characters-take, characters-drop}
use Rattle.checkword.specs.Check.{check_of}
use Rattle.checkword.proofs.Bursts.{frame as burst-seen}
use Rattle.checkword.proofs.Frame.{check_of-stretch, joined}
use Rattle.model.specs.Limits.{write_frame, longest_stretch}
use Rattle.model.specs.Frame.{whole, checked, frame_in, commands, paired, heard_of}
use Rattle.model.specs.Sound.{WholeFrame, WholePair}
use Rattle.model.specs.Damage.{Carries, frame, pair, Seam, Damaged, cut, changed}
use Rattle.model.specs.declared.Frame.{Frame}
use Rattle.model.specs.declared.Heard.{Heard}
use Rattle.model.specs.declared.Heard.TheVariants.{Broken, Wrong, Whole, Pair}
use Rattle.model.proofs.Conditions.{by_cond, and_left, and_right, and_both}
use Rattle.model.proofs.FrameLaws.{tests_frame, frame_tests}

-- ---- words of a part

word-take : (n i : ℕ) (s : List ℕ) → i + 2 ≤ n → word_at (take n s) i ≡ word_at s i
unfolding word_at
word-take n i s h = omega (arith, get_or-take n s i 0 (omega arith), get_or-take n s (i + 1) 0 (omega arith))

word-drop : (n i : ℕ) (s : List ℕ) → word_at (drop n s) i ≡ word_at s (n + i)
unfolding word_at
word-drop n i s =
    let e : n + (i + 1) ≡ n + i + 1 = omega arith in omega (arith, get_or-drop n s i 0, get_or-drop n s (i + 1) 0, ap (λ (k : ℕ). get_or s k 0) e)

frame-count : (s : List ℕ) (f : Frame) → WholeFrame s f → length s ≡ 8 + word_at s 4
unfolding frame_in
frame-count s f w = rw w.head at w.count

-- ---- when a stretch is a pair

-- a whole frame of function 20h and its command
module _ (k : ℕ) (s : List ℕ) where
  commands-frame : commands k s ≡ true → WholeFrame s (frame_in s) × (((frame_in s).function ≡ 0x20) × ((frame_in s).command ≡ k))
  unfolding commands frame_in
  commands-frame e =
      let a = and_right (whole s) _ e in
      let b = and_right (checked s) _ a in
      let f = eqb-true (get_or s 2 0) 0x20 (and_left (eqb (get_or s 2 0) 0x20) _ b) in
      let g = eqb-true (get_or s 3 0) k (and_right (eqb (get_or s 2 0) 0x20) _ b) in
      (tests_frame s (and_left (whole s) _ e) (and_left (checked s) _ a), (f, g))

  frame-commands : (f : Frame) → WholeFrame s f → (f.function ≡ 0x20) × (f.command ≡ k) → commands k s ≡ true
  unfolding commands frame_in
  frame-commands f w e =
      let t = frame_tests s f w in
      let a : get_or s 2 0 ≡ 0x20 = sym (ap (λ (x : Frame). x.function) w.head) ∙ e.0 in
      let b : get_or s 3 0 ≡ k = sym (ap (λ (x : Frame). x.command) w.head) ∙ e.1 in
      and_both t.0 (and_both t.1 (and_both (eq-eqb _ _ a) (eq-eqb _ _ b)))

module _ (s : List ℕ) where
  front_address : (frame_in (take write_frame s)).address ≡ word_at s 0
  unfolding frame_in
  front_address = word-take write_frame 0 s (omega arith)

  behind-address : (frame_in (drop write_frame s)).address ≡ word_at s write_frame
  unfolding frame_in
  behind-address = word-drop write_frame 0 s

  paired-whole : paired s ≡ true → WholePair s (frame_in (take write_frame s)) (frame_in (drop write_frame s))
  unfolding paired
  paired-whole e =
      let a = and_right (commands 0x30 (take write_frame s)) _ e in
      let w = commands-frame 0x30 (take write_frame s) (and_left (commands 0x30 (take write_frame s)) _ e) in
      let x = commands-frame 0x31 (drop write_frame s) (and_left (commands 0x31 (drop write_frame s)) _ a) in
      record {
        write = w.0;
        execute = x.0;
        writes = w.1;
        executes = x.1;
        address = front_address ∙ eqb-true (word_at s 0) (word_at s write_frame) (and_right (commands 0x31 (drop write_frame s)) _ a) ∙ sym behind-address;
      }

  -- how a stretch is heard, by what it shows
  pub by_heard : (P : Heard → Type 0) → (WholeFrame s (frame_in s) → P (Whole (frame_in s))) → P Wrong
      → (WholePair s (frame_in (take write_frame s)) (frame_in (drop write_frame s)) → P (Pair (frame_in (take write_frame s)) (frame_in (drop write_frame s))))
      → P Broken → P (heard_of s)
  unfolding heard_of
  by_heard P one wrong two broken =
      by_cond P (whole s) (λ w. by_cond P (checked s) (λ k. one (tests_frame s w k)) (λ k. wrong))
      (λ w. by_cond P (paired s) (λ e. two (paired-whole e)) (λ e. broken))

  -- as a frame, or as a pair, just where it is one
  pub heard-whole : (f : Frame) → heard_of s ≡ Whole f → WholeFrame s f
  heard-whole f =
      by_heard (λ h. h ≡ Whole f → WholeFrame s f) (λ w e. let z : frame_in s ≡ f = cc in rw (← z) w)
      (λ e. let z : ◌≡◌ {A = ℕ} 0 1 = cc in absurd (omega arith)) (λ p e. let z : ◌≡◌ {A = ℕ} 0 1 = cc in absurd (omega arith))
      (λ e. let z : ◌≡◌ {A = ℕ} 0 1 = cc in absurd (omega arith))

  pub heard-pair : (w x : Frame) → heard_of s ≡ Pair w x → WholePair s w x
  heard-pair w x =
      by_heard (λ h. h ≡ Pair w x → WholePair s w x) (λ f e. let z : ◌≡◌ {A = ℕ} 0 1 = cc in absurd (omega arith))
      (λ e. let z : ◌≡◌ {A = ℕ} 0 1 = cc in absurd (omega arith))
      (λ p e. let y : frame_in (take write_frame s) ≡ w = cc in let z : frame_in (drop write_frame s) ≡ x = cc in rw (← y, ← z) p)
      (λ e. let z : ◌≡◌ {A = ℕ} 0 1 = cc in absurd (omega arith))

module _ (s : List ℕ) (w x : Frame) (p : WholePair s w x) where
  -- both have the address that stands first
  pub pair-address : (w.address ≡ word_at s 0) × (x.address ≡ word_at s 0)
  pair-address = let a = ap (λ (f : Frame). f.address) p.write.head ∙ front_address s in (a, sym p.address ∙ a)

  -- the WRITE has 11 characters, and the count of the EXECUTE tells how many follow
  pub pair_front : length (take write_frame s) ≡ 11
  pair_front = length-take-le write_frame s (omega (arith, p.execute.short, length-drop write_frame s))

  pair-counts : (word_at s 4 ≡ 3) × (length s ≡ 19 + word_at s 15)
  pair-counts = (
    omega (arith, pair_front, frame-count (take write_frame s) w p.write, word-take write_frame 4 s (omega arith)),
    omega (arith, p.execute.short, length-drop write_frame s, frame-count (drop write_frame s) x p.execute, word-drop write_frame 4 s),
  )

  -- so it is no whole frame
  pair_unwhole : whole s ≡ false
  unfolding whole
  pair_unwhole = let n = pair-counts in simp (ne_eqb (length s) (8 + word_at s 4) (λ e. omega arith), and-false)

  pub pair-heard : heard_of s ≡ Pair w x
  unfolding heard_of paired
  pair-heard =
      let a : word_at s 0 ≡ word_at s write_frame = sym (front_address s) ∙ sym (ap (λ (f : Frame). f.address) p.write.head) ∙ p.address ∙ ap (λ (f : Frame). f.address) p.execute.head ∙ behind-address s in
      rw (pair_unwhole, frame-commands 0x30 (take write_frame s) w p.write p.writes, frame-commands 0x31 (drop write_frame s) x p.execute p.executes, eq-eqb (word_at s 0) (word_at s write_frame) a)
      (ap₂ Pair (sym p.write.head) (sym p.execute.head))

  -- 147 characters at most (Request 5.2)
  pub pair_longest : length s ≤ longest_stretch
  pair_longest = omega (arith, p.execute.long, length-drop write_frame s)

-- ---- damage

-- what carries a frame or a pair leaves 0
carries_0 : (s : List ℕ) → Characters s → Carries s → check_of s ≡ 0
carries_0 s h (frame w) = check_of-stretch s h (omega (arith, w.short)) w.check
carries_0 s h (pair p) =
    joined write_frame s (check_of-stretch (take write_frame s) (characters-take write_frame s h) (omega (arith, p.write.short)) p.write.check)
    (check_of-stretch (drop write_frame s) (characters-drop write_frame s h) (omega (arith, p.execute.short)) p.execute.check)

-- a front part of it has another length than its counts tell, but for the WRITE of a pair
cut-carries : (s : List ℕ) (n : ℕ) (g : Carries s) → n < length s → (Seam g n → ⊥) → length (take n s) ≡ n → Carries (take n s) → ⊥
cut-carries s n (frame {f = f} w) l ne m (frame {f = g} v) =
    omega (arith, v.short, frame-count s f w, frame-count (take n s) g v, word-take n 4 s (omega (arith, v.short)))
cut-carries s n (frame {f = f} w) l ne m (pair {w = u} {x = y} q) =
    let c = pair-counts (take n s) u y q in omega (arith, frame-count s f w, word-take n 4 s (omega arith))
cut-carries s n (pair {w = w} {x = x} p) l ne m (frame {f = g} v) =
    let c = pair-counts s w x p in ne (omega (arith, frame-count (take n s) g v, word-take n 4 s (omega (arith, v.short))))
cut-carries s n (pair {w = w} {x = x} p) l ne m (pair {w = u} {x = y} q) =
    let c = pair-counts s w x p in let d = pair-counts (take n s) u y q in omega (arith, word-take n 15 s (omega arith))

uncarried : {t : List ℕ} → Damaged t → Carries t → ⊥
uncarried (cut {s = s} {n = n} g l ne) e = cut-carries s n g.carries l ne (length-take-le n s (omega arith)) e
uncarried (changed {s = s} {t = t} g h b) e = burst-seen g.characters h b 0 (carries_0 s g.characters g.carries) (carries_0 t h e)

-- it is heard as no whole frame, or with a wrong check
pub unheard : {t : List ℕ} → Damaged t → (heard_of t ≡ Broken) ⊎ (heard_of t ≡ Wrong)
unheard {t} d =
    by_heard t (λ h. (h ≡ Broken) ⊎ (h ≡ Wrong)) (λ w. absurd (uncarried d (frame w))) (inr refl) (λ p. absurd (uncarried d (pair p))) (inl refl)
