-- Laws of frames: addresses, when a stretch is a whole frame, and a request read back.
-- Assumes nothing.
use mathlib.Core.Path.{◌≡◌, refl, sym, ap, ◌∙◌}
use Prim.Native.Nat.{ℕ, zero, suc, ◌+◌, ◌*◌, ◌-◌, ◌/◌, ◌%◌, ◌<◌, ◌≤◌}
use native.Mathlib.Omega.{arith}
use mathlib.Core.List.{List, [], ◌∷◌, ◌++◌, append-nil}
use mathlib.Core.Bool.{Bool, true, false, ◌&&◌}
use lib.ListN.{length, get_or, take, length-append}
use lib.Seq.{take_at}
use lib.Dec.{leb, eqb}
use borrow.Author.Tests.{leb-true, eqb-true, le-leb, lt-leb, eq-eqb}
use Rattle.chars.specs.Put.{part}
use Rattle.chars.specs.Word.{Characters, word, word_at}
use Rattle.chars.proofs.WordLaws.{word_read, length-word, characters-word, characters_append}
use Rattle.checkword.specs.Check.{check_of}
use Rattle.checkword.proofs.Frame.{check_of_lt}
use Rattle.model.specs.Frame.{Request, unit_of, master_of, address_of, whole, checked, frame_in, heard_of, request_in, with_check, frame_chars}
use Rattle.model.specs.Sound.{Sound, request_head, WholeFrame}
use Rattle.model.specs.declared.Master.{Master}
use Rattle.model.specs.declared.Frame.{Frame}
use Rattle.model.specs.declared.Heard.TheVariants.{Whole}

-- ---- addresses: joined and split, split and joined

pub joined-master : (m : Master) (u : ℕ) → m.0 < 32 → master_of (address_of m u) ≡ m
unfolding master_of address_of
joined-master m u h =
    let e : (2048 * (m.0 % 32) + u % 2048) / 2048 ≡ m.0 = omega arith in ap (λ (n : ℕ). record { 0 = n }) e

pub joined-unit : (m : Master) (u : ℕ) → u < 2048 → unit_of (address_of m u) ≡ u
unfolding unit_of address_of
joined-unit m u h = omega arith

pub split_address : (a : ℕ) → a < 65536 → address_of (master_of a) (unit_of a) ≡ a
unfolding unit_of master_of address_of
split_address a h = omega arith

-- ---- when a stretch is a whole frame

and_both : (a b : Bool) → (a && b) ≡ true → (a ≡ true) × (b ≡ true)
and_both true b e = (refl, e)
and_both false b e = let z : ◌≡◌ {A = ℕ} 0 1 = cc in absurd (omega arith)

module _ (s : List ℕ) where
  -- no whole frame: under 8 characters, over 136, or not as many as its count tells
  pub short_unwhole : length s < 8 → whole s ≡ false
  unfolding whole
  short_unwhole h = rw (lt-leb 8 (length s) h)

  pub long_unwhole : 8 ≤ length s → 136 < length s → whole s ≡ false
  unfolding whole
  long_unwhole l h = rw (le-leb 8 (length s) l, lt-leb (length s) 136 h)

  pub count-whole : 8 ≤ length s → length s ≤ 136 → whole s ≡ eqb (length s) (8 + word_at s 4)
  unfolding whole
  count-whole l m = rw (le-leb 8 (length s) l, le-leb (length s) 136 m)

  -- ---- what a whole frame shows, and no other stretch

  pub whole_long : whole s ≡ true → (8 ≤ length s) × (length s ≤ 136) × (length s ≡ 8 + word_at s 4)
  unfolding whole
  whole_long w =
      let a = and_both (leb 8 (length s)) (leb (length s) 136 && eqb (length s) (8 + word_at s 4)) w in
      let b = and_both (leb (length s) 136) (eqb (length s) (8 + word_at s 4)) a.1 in
      (leb-true 8 (length s) a.0, leb-true (length s) 136 b.0, eqb-true (length s) (8 + word_at s 4) b.1)

  pub tests_frame : whole s ≡ true → checked s ≡ true → WholeFrame s (frame_in s)
  unfolding checked frame_in
  tests_frame w k =
      let l = whole_long w in
      record {
        head = refl;
        short = l.0;
        long = l.1;
        count = l.2;
        check = eqb-true (word_at s (length s - 2)) (check_of (take (length s - 2) s)) k;
      }

  pub frame_tests : (f : Frame) → WholeFrame s f → (whole s ≡ true) × (checked s ≡ true)
  unfolding checked frame_in
  frame_tests f w =
      let e : length s ≡ 8 + word_at s 4 = rw w.head at w.count in
      (count-whole w.short w.long ∙ eq-eqb (length s) (8 + word_at s 4) e, eq-eqb (word_at s (length s - 2)) (check_of (take (length s - 2) s)) w.check)

  pub whole-heard : (f : Frame) → WholeFrame s f → heard_of s ≡ Whole f
  unfolding heard_of
  whole-heard f w = let t = frame_tests f w in rw (t.0, t.1) (ap Whole (sym w.head))

-- ---- a request as the master lays it out is read back

-- the characters before the check
before-check : Request → List ℕ
before-check q = word q.address ++ (q.function ∷ q.command ∷ (word (length q.body) ++ q.body))

length_before : (q : Request) → length (before-check q) ≡ 6 + length q.body
unfolding before-check word
length_before q = omega arith

-- a list with its check characters behind it is two longer, and those are its check
module _ (s : List ℕ) where
  pub checked-long : length (with_check s) ≡ length s + 2
  unfolding with_check
  checked-long = rw (length-append, length-word)

  pub checked-right : word_at (with_check s) (length (with_check s) - 2) ≡ check_of (take (length (with_check s) - 2) (with_check s))
  checked-right =
      let e : length (with_check s) - 2 ≡ length s = omega (arith, checked-long) in
      rw e
      (unfold with_check in
      (ap (λ (l : List ℕ). word_at (s ++ l) (length s)) (sym (append-nil (word (check_of s)))) ∙ word_read s (check_of s) [])
      ∙ ap (λ (l : List ℕ). check_of l) (sym (take_at s (word (check_of s)) (length s) refl)))

  checked-characters : Characters s → Characters (with_check s)
  unfolding with_check
  checked-characters h = characters_append s (word (check_of s)) h (characters-word (check_of s) (check_of_lt s h))

-- one character more in front
in_front : (x : ℕ) (s : List ℕ) → x < 256 → Characters s → Characters (x ∷ s)
in_front x s h k zero = h
in_front x s h k (suc i) = k i

module _ (q : Request) where
  -- each part is read where it was laid
  address_read : word_at (frame_chars q) 0 ≡ q.address
  unfolding frame_chars with_check word word_at
  address_read = omega arith

  function-read : get_or (frame_chars q) 2 0 ≡ q.function
  unfolding frame_chars with_check word
  function-read = refl

  command-read : get_or (frame_chars q) 3 0 ≡ q.command
  unfolding frame_chars with_check word
  command-read = refl

  count-read : word_at (frame_chars q) 4 ≡ length q.body
  unfolding frame_chars with_check word word_at
  count-read = omega arith

  head_read : frame_in (frame_chars q) ≡ request_head q
  unfolding frame_in request_head
  head_read = rw (address_read, function-read, command-read, count-read)

  body-read : part (frame_chars q) 6 (length q.body) ≡ q.body
  unfolding part frame_chars with_check word
  body-read = take_at q.body _ (length q.body) refl

  frame-whole : length q.body ≤ 128 → WholeFrame (frame_chars q) (request_head q)
  unfolding request_head
  frame-whole h =
      let e : frame_chars q ≡ with_check (before-check q) = (unfold frame_chars before-check in refl) in
      let l : length (frame_chars q) ≡ 8 + length q.body = rw e (omega (arith, checked-long (before-check q), length_before q)) in
      record {
        head = sym head_read;
        short = omega arith;
        long = omega arith;
        count = l;
        check = rw e (checked-right (before-check q));
      }

  pub read_back : Sound q → (heard_of (frame_chars q) ≡ Whole (request_head q)) × (request_in (request_head q) (frame_chars q) ≡ q)
  unfolding request_in request_head
  read_back h = (
    whole-heard (frame_chars q) (request_head q) (frame-whole h.most),
    ap (λ (l : List ℕ). record { address = q.address; function = q.function; command = q.command; body = l }) body-read,
  )

  -- and so are the master and the unit that the address was joined of
  pub read_names : (m : Master) (u : ℕ) → m.0 < 32 → u < 2048 → q.address ≡ address_of m u
      → (master_of (request_head q).address ≡ m) × (unit_of (request_head q).address ≡ u)
  unfolding request_head
  read_names m u h k e = rw e (joined-master m u h, joined-unit m u k)

  before-characters : Sound q → Characters (before-check q)
  unfolding before-check
  before-characters h =
      let count = word (length q.body) in
      let n = characters_append count q.body (characters-word (length q.body) (omega (arith, h.most))) h.body in
      let c = in_front q.command (count ++ q.body) h.command n in
      let f = in_front q.function (q.command ∷ (count ++ q.body)) h.function c in
      characters_append (word q.address) (q.function ∷ q.command ∷ (count ++ q.body)) (characters-word q.address h.address) f

  -- its characters are characters, so that what is said of damage holds of it
  pub sent-characters : Sound q → Characters (frame_chars q)
  unfolding frame_chars before-check
  sent-characters h = checked-characters (before-check q) (before-characters h)
