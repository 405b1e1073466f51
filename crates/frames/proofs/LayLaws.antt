-- Laws of a request laid into a buffer: head, data, then check characters.
-- Assumes nothing.
use mathlib.Core.Path.{◌≡◌, refl, sym, ap, ap₂, ◌∙◌}
use Prim.Native.Nat.{ℕ, ◌+◌, ◌-◌, ◌*◌, ◌^◌, ◌<◌, ◌≤◌}
use native.Mathlib.Omega.{arith}
use mathlib.Core.List.{List, [], ◌∷◌, ◌++◌}
use lib.ListN.{length, take, length-append}
use borrow.Author.Tests.{le-leb, lt-leb}
use Rattle.chars.specs.Put.{put, part}
use Rattle.chars.specs.Word.{word}
use Rattle.chars.proofs.PutLaws.{put-none, put_then, part-whole, take-put_front, copy_none}
use Rattle.chars.proofs.WordLaws.{length-word}
use Rattle.checkword.specs.Check.{bit_steps, check_of}
use Rattle.checkword.specs.Line.{line}
use Rattle.checkword.proofs.Eights.{in_number}
use Rattle.model.specs.Frame.{Request, asked, with_check, frame_chars}
use Rattle.model.specs.declared.Frame.{Frame}
use Rattle.frames.specs.Framed.{asked_head, laid_in}
use Rattle.frames.proofs.FillLaws.{check-put}

-- four writes side by side are the head
pub asked-put : (xs us vs ws bs : List ℕ) (f : Frame) (n : ℕ)
    → us ≡ put xs 0 (word f.address)
    → vs ≡ put us 2 (f.function ∷ [])
    → ws ≡ put vs 3 (f.command ∷ [])
    → bs ≡ put ws 4 (word n)
    → bs ≡ put xs 0 (asked_head f n)
unfolding asked_head word
asked-put xs us vs ws bs f n a b c d =
    let address = word f.address in
    put_then xs ws bs 0 4 ((address ++ (f.function ∷ [])) ++ (f.command ∷ [])) (word n)
    (put_then xs vs ws 0 3 (address ++ (f.function ∷ [])) (f.command ∷ []) (put_then xs us vs 0 2 address (f.function ∷ []) a refl b) refl c) refl d

length-asked : (f : Frame) (n : ℕ) → length (asked_head f n) ≡ 6
unfolding asked_head word
length-asked f n = refl

module _ (entry : List ℕ) (q : Request) where
  -- ---- where a frame, or the buffer, cannot hold the request
  pub none-long : 128 < length q.body → (0 ≡ length (laid_in (length entry) q)) × (entry ≡ put entry 0 (laid_in (length entry) q))
  unfolding laid_in
  none-long h = rw (lt-leb (length q.body) 128 h) (refl, sym (put-none entry 0))

  pub none-short : length q.body ≤ 128 → length entry < 8 + length q.body → (0 ≡ length (laid_in (length entry) q)) × (entry ≡ put entry 0 (laid_in (length entry) q))
  unfolding laid_in
  none-short k h = rw (le-leb (length q.body) 128 k, lt-leb (8 + length q.body) (length entry) h) (refl, sym (put-none entry 0))

-- ---- where both can
module _ (entry : List ℕ) (f : Frame) (ys : List ℕ) (k : length ys ≤ 128) (h : 8 + length ys ≤ length entry) where
  front : List ℕ
  front = asked_head f (length ys) ++ ys

  length_front : length front ≡ 6 + length ys
  unfolding front
  length_front = rw length-append (omega (arith, length-asked f (length ys)))

  pub laid_is : laid_in (length entry) (asked f ys) ≡ frame_chars (asked f ys)
  unfolding laid_in
  laid_is = rw (le-leb (length ys) 128 k, le-leb (8 + length ys) (length entry) h)

  laid-some : laid_in (length entry) (asked f ys) ≡ with_check front
  unfolding frame_chars front asked_head word
  laid-some = laid_is

  pub laid-long : length (laid_in (length entry) (asked f ys)) ≡ 6 + length ys + 2
  unfolding with_check
  laid-long = rw (laid-some, length-append, length-word) (omega (arith, length_front))

  -- head, data, and the check of both behind them make the request
  pub laid-put : (us vs bs : List ℕ) → us ≡ put entry 0 (asked_head f (length ys)) → vs ≡ put us 6 (part ys 0 (length ys))
      → bs ≡ put vs (6 + length ys) (word (check_of (take (6 + length ys) vs))) → bs ≡ put entry 0 (laid_in (length entry) (asked f ys))
  unfolding front
  laid-put us vs bs a b d =
      rw laid-some
      (check-put entry front (6 + length ys) length_front (omega arith) vs bs
      (put_then entry us vs 0 6 (asked_head f (length ys)) ys a (omega (arith, length-asked f (length ys))) (b ∙ rw part-whole)) d)

-- without data the check may be that of a number
pub laid-number : (entry : List ℕ) (f : Frame) (ys : List ℕ) → length ys ≡ 0 → 8 + length ys ≤ length entry
    → (v check : ℕ) (us bs : List ℕ) → us ≡ put entry 0 (asked_head f (length ys)) → v ≡ line (asked_head f 0) * 2 ^ 16 → check ≡ bit_steps 64 v
    → bs ≡ put us 6 (word check)
    → bs ≡ put entry 0 (laid_in (length entry) (asked f ys))
laid-number entry f (y ∷ ys) z h v check us bs a e d b = absurd (omega arith)
laid-number entry f [] z h v check us bs a e d b =
    let long : length (asked_head f 0) ≤ length entry = omega (arith, length-asked f 0) in
    let few : length (asked_head f 0) ≤ 8 = omega (arith, length-asked f 0) in
    let up : 16 ≡ 64 - 8 * length (asked_head f 0) = omega (arith, length-asked f 0) in
    let read : take 6 us ≡ asked_head f 0 = ap₂ take (sym (length-asked f 0)) a ∙ take-put_front entry (asked_head f 0) long in
    laid-put entry f [] (omega arith) h us us bs a (sym (copy_none us 6 [] 0))
    (b ∙ ap (λ x. put us 6 (word x)) (d ∙ ap (bit_steps 64) (e ∙ ap (λ n. line (asked_head f 0) * 2 ^ n) up) ∙ in_number (asked_head f 0) few ∙ ap (λ l. check_of l) (sym read)))
