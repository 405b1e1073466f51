-- Laws of a reply laid round its data in a buffer: head, then check characters.
-- Assumes nothing.
use mathlib.Core.Path.{◌≡◌, refl, sym, ap, ap₂, ◌∙◌}
use Prim.Native.Nat.{ℕ, zero, suc, ◌+◌, ◌-◌, ◌*◌, ◌^◌, ◌<◌, ◌≤◌}
use native.Mathlib.Omega.{arith}
use mathlib.Core.List.{List, [], ◌∷◌, ◌++◌}
use lib.ListN.{length, take, get_or, length-append}
use lib.Seq.{drop-cons}
use borrow.Author.Tests.{le-leb, lt-leb}
use Rattle.chars.specs.Put.{put, part}
use Rattle.chars.specs.Word.{word}
use Rattle.chars.proofs.PutLaws.{put-own, length-put, put-none, put_under, put_then, take-put_front, length_part, part_none, part-put-after}
use Rattle.chars.proofs.WordLaws.{length-word}
use Rattle.checkword.specs.Check.{bit_steps, check_of}
use Rattle.checkword.specs.Line.{line}
use Rattle.checkword.proofs.Eights.{in_number}
use Rattle.model.specs.Frame.{with_check, head_chars, reply_chars}
use Rattle.model.specs.declared.Reply.{Reply}
use Rattle.frames.specs.Framed.{framed_in}

-- five writes side by side are the head
pub head-put : (xs us vs ws zs bs : List ℕ) (r : Reply)
    → us ≡ put xs 0 (word r.address)
    → vs ≡ put us 2 (r.function ∷ [])
    → ws ≡ put vs 3 (r.status ∷ [])
    → zs ≡ put ws 4 (r.port ∷ [])
    → bs ≡ put zs 5 (word r.count)
    → bs ≡ put xs 0 (head_chars r)
unfolding head_chars word
head-put xs us vs ws zs bs r a b c d e =
    let address = word r.address in
    put_then xs zs bs 0 5 (((address ++ (r.function ∷ [])) ++ (r.status ∷ [])) ++ (r.port ∷ [])) (word r.count)
    (put_then xs ws zs 0 4 ((address ++ (r.function ∷ [])) ++ (r.status ∷ [])) (r.port ∷ [])
    (put_then xs vs ws 0 3 (address ++ (r.function ∷ [])) (r.status ∷ []) (put_then xs us vs 0 2 address (r.function ∷ []) a refl b) refl c) refl d)
    refl e

length-head : (r : Reply) → length (head_chars r) ≡ 7
unfolding head_chars word
length-head r = refl

-- the check of a front, written behind it, makes the front with its check
pub check-put : (entry front : List ℕ) (end : ℕ) → length front ≡ end → end + 2 ≤ length entry
    → (us bs : List ℕ) → us ≡ put entry 0 front → bs ≡ put us end (word (check_of (take end us))) → bs ≡ put entry 0 (with_check front)
unfolding with_check
check-put entry front end l h us bs a b =
    let read : take end us ≡ front = rw (a, ← l) (take-put_front entry front (omega arith)) in
    put_then entry us bs 0 end front (word (check_of front)) a (omega arith) (rw read at b)

-- one character at most behind the head
next : (us : List ℕ) (n : ℕ) → n < 2 → 7 < length us → take n (get_or us 7 0 ∷ []) ≡ part us 7 n
next us zero k h = sym (part_none us 7)
next us (suc zero) k h = unfold part in sym (ap (take 1) (drop-cons us 7 0 h))
next us (suc (suc n)) k h = absurd (omega arith)

module _ (entry : List ℕ) (r : Reply) where
  -- ---- where the buffer cannot hold the reply

  pub untouched : length entry < 7 + r.count + 2 → (0 ≡ length (framed_in entry r)) × (entry ≡ put entry 0 (framed_in entry r))
  unfolding framed_in
  untouched h = rw (lt-leb (7 + r.count + 2) (length entry) h) (refl, sym (put-none entry 0))

  -- ---- where it can
  module _ (h : 7 + r.count + 2 ≤ length entry) where
    -- head and data, which stand behind its room
    front : List ℕ
    front = head_chars r ++ part entry 7 r.count

    length_front : length front ≡ 7 + r.count
    unfolding front
    length_front = rw length-append (omega (arith, length-head r, length_part entry 7 r.count (omega arith)))

    -- what is framed is the reply that the definitions ask for
    pub framed_is : framed_in entry r ≡ reply_chars r (part entry 7 r.count)
    unfolding framed_in
    framed_is = rw (le-leb (7 + r.count + 2) (length entry) h)

    framed-some : framed_in entry r ≡ with_check front
    unfolding reply_chars front
    framed-some = framed_is

    pub framed-long : length (framed_in entry r) ≡ 7 + r.count + 2
    unfolding with_check
    framed-long = rw (framed-some, length-append, length-word) (omega (arith, length_front))

    module _ (us : List ℕ) (a : us ≡ put entry 0 (head_chars r)) where
      head_front : us ≡ put entry 0 front
      unfolding front
      head_front =
          a ∙ ap (λ (l : List ℕ). put l 0 (head_chars r)) (sym (put-own entry 7 r.count))
          ∙ put_under entry 0 (head_chars r) (part entry 7 r.count) 7 (omega (arith, length-head r))

      -- the check of the front, written behind it, makes the reply
      pub framed-put : (bs : List ℕ) → bs ≡ put us (7 + r.count) (word (check_of (take (7 + r.count) us))) → bs ≡ put entry 0 (framed_in entry r)
      framed-put bs b = rw framed-some (check-put entry front (7 + r.count) length_front (omega arith) us bs head_front b)

      -- of one character of data at most the check may be that of a number
      pub framed-number : (v check : ℕ) (bs : List ℕ) → r.count < 2
          → v ≡ line (head_chars r ++ take r.count (get_or us 7 0 ∷ [])) * 2 ^ (8 * (1 - r.count))
          → check ≡ bit_steps 64 v
          → bs ≡ put us (7 + r.count) (word check)
          → bs ≡ put entry 0 (framed_in entry r)
      unfolding front head_chars
      framed-number v check bs k e d b =
          let long : 7 < length us = rw (a, length-put) (omega arith) in
          let behind : part us 7 r.count ≡ part entry 7 r.count =
          ap (λ l. part l 7 r.count) a ∙ part-put-after entry 0 (head_chars r) 7 r.count (omega (arith, length-head r)) in
          let whole : head_chars r ++ take r.count (get_or us 7 0 ∷ []) ≡ front = ap (λ l. head_chars r ++ l) (next us r.count k long ∙ behind) in
          let up : 8 * (1 - r.count) ≡ 64 - 8 * length front = omega (arith, length_front) in
          let few : length front ≤ 8 = omega (arith, length_front) in
          let read : take (7 + r.count) us ≡ front = rw (head_front, ← length_front) (take-put_front entry front (omega (arith, length_front))) in
          framed-put bs
          (b ∙ ap (λ x. put us (7 + r.count) (word x))
          (d ∙ ap (bit_steps 64) (e ∙ ap₂ (λ l n. line l * 2 ^ n) whole up) ∙ in_number front few ∙ ap (λ l. check_of l) (sym read)))
