-- What a call that builds lays and leaves, case by case of its tests.
-- Assumes nothing.
use mathlib.Core.Path.{◌≡◌, refl, sym, ap, ◌∙◌}
use Prim.Native.Nat.{ℕ, ◌+◌, ◌/◌, ◌%◌, ◌<◌, ◌≤◌}
use native.Mathlib.Omega.{arith}
use mathlib.Core.List.{List, [], ◌∷◌}
use mathlib.Core.Bool.{Bool, true, false, cond, not, ◌&&◌}
use lib.ListN.{length, get_or}
use lib.Dec.{eqb, leb}
use borrow.Author.Tests.{le-leb, lt-leb, eq-eqb, ne_eqb, eqb-true, eqb-false}
use Rattle.chars.specs.Put.{put}
use Rattle.chars.proofs.PutLaws.{put-none}
use Rattle.model.specs.Limits.{longest_frame}
use Rattle.model.specs.Frame.{Request, unit_of, broadcast_unit, asked, frame_chars}
use Rattle.model.specs.History.{file_of, dumps}
use Rattle.model.specs.Ask.{askable, to_all}
use Rattle.model.specs.Poll.{Wish, wished, Built, polls, poll_of, unbuilt, built_poll, builds}
use Rattle.model.specs.declared.Frame.{Frame}
use Rattle.frames.specs.Framed.{laid_in}
use Rattle.frames.proofs.LayLaws.{laid_is}
use Rattle.master.specs.Polled.{free_at, latest_at, waiting_at, address_in, poll_in, in_range}
use Rattle.master.proofs.SameLaws.{and_parts}
use Rattle.master.proofs.AskLaws.{asked-short, asked-history}
use Rattle.master.specs.Built.{latest_built, polls_in, turns_in, memory_polled, frame_polled, asks_in, can_build, memory_built, frame_built, Lays}

by_bit : (x : ℕ) (b : Bool) → eqb (x / 32 % 2) 1 ≡ b → cond b 32 0 + x % 32 ≡ x % 64
by_bit x true e = let h : x / 32 % 2 ≡ 1 = eqb-true (x / 32 % 2) 1 e in omega arith
by_bit x false e = let h : (x / 32 % 2 ≡ 1) → ⊥ = eqb-false (x / 32 % 2) 1 e in omega arith

-- file and kind are the low six bits
pub low_six : (x : ℕ) → cond (eqb (x / 32 % 2) 1) 32 0 + x % 32 ≡ x % 64
low_six x = by_bit x (eqb (x / 32 % 2) 1) refl

-- ---- the frame of a history request

frame_either : (b : Bool) (x y : Built) → (cond b x y).frame ≡ cond b x.frame y.frame
frame_either true x y = refl
frame_either false x y = refl

module _ (p : List ℕ) (q : Request) (k : q.command < 64) where
  command-free : (b : Bool)
      → cond b 64 0 + (cond (cond b (dumps q) (eqb (get_or p latest_at 0 / 32 % 2) 1)) 32 0 + cond b (file_of q) (get_or p latest_at 0 % 32)) ≡ cond b (64 + q.command) (get_or p latest_at 0 % 64)
  unfolding dumps file_of
  command-free true = omega (arith, low_six q.command)
  command-free false = omega (arith, low_six (get_or p latest_at 0))

  polled_is : (a : ℕ) → poll_of a (polls (poll_in p) (file_of q) (dumps q)) ≡ record { address = a; function = 0x04; command = latest_built p q.command; body = [] }
  unfolding poll_of polls poll_in latest_built
  polled_is a = ap (λ (c : ℕ). record { address = a; function = 0x04; command = c; body = [] }) (command-free (eqb (get_or p free_at 0) 0))

  polled_frame : (room a : ℕ) → (built_poll a (poll_in p) room q).frame ≡ frame_polled p room a q.command
  unfolding built_poll frame_polled unbuilt
  polled_frame room a = frame_either (leb 511 room) _ _ ∙ rw (polled_is a)

-- ---- nothing is built

pub lays_nothing : (p buffer frame memory : List ℕ) → frame ≡ [] → memory ≡ p → Lays p p buffer buffer 0 frame memory
lays_nothing p buffer frame memory e h = record { long = rw e; laid = rw e (sym (put-none buffer 0)); kept = sym h }

module _ (p buffer : List ℕ) (room : ℕ) (w : Wish) where
  pub built_short : length buffer < longest_frame → Lays p p buffer buffer 0 (frame_built p (length buffer) room w) (memory_built p (length buffer) room w)
  unfolding frame_built memory_built can_build
  built_short h = let e = lt-leb longest_frame (length buffer) h in lays_nothing p buffer _ _ (rw e) (rw e)

  module _ (h : longest_frame ≤ length buffer) where
    pub built_unranged : in_range p ≡ false → Lays p p buffer buffer 0 (frame_built p (length buffer) room w) (memory_built p (length buffer) room w)
    unfolding frame_built memory_built can_build
    built_unranged n = let e = le-leb longest_frame (length buffer) h in lays_nothing p buffer _ _ (rw (e, n)) (rw (e, n))

    module _ (n : in_range p ≡ true) where
      can_build_lem : can_build p (length buffer) ≡ true
      unfolding can_build
      can_build_lem = rw (le-leb longest_frame (length buffer) h) n

      pub built_none : not (eqb (unit_of (address_in p)) broadcast_unit) && askable (wished (address_in p) w) ≡ false
          → Lays p p buffer buffer 0 (frame_built p (length buffer) room w) (memory_built p (length buffer) room w)
      unfolding frame_built memory_built asks_in builds unbuilt
      built_none a = lays_nothing p buffer _ _ (rw (can_build_lem, a)) (rw (can_build_lem, a))

      -- ---- a request is built
      module _ (a : not (eqb (unit_of (address_in p)) broadcast_unit) && askable (wished (address_in p) w) ≡ true) where
        pub other-frame : (w.function ≡ 0x04 → ⊥) → frame_built p (length buffer) room w ≡ frame_chars (wished (address_in p) w)
        unfolding frame_built builds
        other-frame f = rw (can_build_lem, a, ne_eqb w.function 0x04 f)

        pub other-memory : (w.function ≡ 0x04 → ⊥) → memory_built p (length buffer) room w ≡ turns_in p w
        unfolding memory_built asks_in
        other-memory f = rw (can_build_lem, a, ne_eqb w.function 0x04 f)

        pub poll-memory : w.function ≡ 0x04 → memory_built p (length buffer) room w ≡ memory_polled p room w.command
        unfolding memory_built asks_in
        poll-memory f = rw (can_build_lem, a, eq-eqb w.function 0x04 f)

        poll_built : w.function ≡ 0x04 → frame_built p (length buffer) room w ≡ (built_poll (address_in p) (poll_in p) room (wished (address_in p) w)).frame
        unfolding frame_built builds
        poll_built f = rw (can_build_lem, a, eq-eqb w.function 0x04 f)

        pub poll-frame : w.function ≡ 0x04 → w.command < 64 → frame_built p (length buffer) room w ≡ frame_polled p room (address_in p) w.command
        unfolding wished
        poll-frame f k = poll_built f ∙ polled_frame p (wished (address_in p) w) k room (address_in p)

-- ---- what was laid

none_of : (l : List ℕ) → length l ≡ 0 → l ≡ []
none_of [] e = refl
none_of (x ∷ l) e = absurd (omega arith)

-- the latest history request, where the room can take a reply
module _ (p us buffer bs ys : List ℕ) (room a command latest r : ℕ) (f : Frame) where
  pub polls-laid : 511 ≤ room → 136 ≤ length buffer → length ys ≡ 0 → latest ≡ latest_built p command
      → us ≡ put (put (put p latest_at (latest ∷ [])) free_at (1 ∷ [])) waiting_at (1 ∷ [])
      → f ≡ record { address = a; function = 4; command = latest; count = 0 }
      → r ≡ length (laid_in (length buffer) (asked f ys)) → bs ≡ put buffer 0 (laid_in (length buffer) (asked f ys))
      → Lays p us buffer bs r (frame_polled p room a command) (memory_polled p room command)
  unfolding frame_polled memory_polled polls_in
  polls-laid m h z l u e n b =
      let is : laid_in (length buffer) (asked f ys) ≡ frame_chars (record { address = a; function = 0x04; command = latest_built p command; body = [] }) =
      laid_is buffer f ys (omega arith) (omega arith) ∙ rw (none_of ys z, e, l) in
      rw (le-leb 511 room m) (record { long = n ∙ rw is; laid = b ∙ rw is; kept = u ∙ rw l })

pub polls-none : (p buffer : List ℕ) (room a command : ℕ) → room < 511 → Lays p p buffer buffer 0 (frame_polled p room a command) (memory_polled p room command)
unfolding frame_polled memory_polled
polls-none p buffer room a command h = let e = lt-leb 511 room h in lays_nothing p buffer _ _ (rw e) (rw e)

-- ---- all of it

module _ (p buffer : List ℕ) (room : ℕ) (w : Wish) (h : longest_frame ≤ length buffer) (n : in_range p ≡ true)
    (a : ℕ) (e : a ≡ address_in p) (f : Frame) (g : ℕ) (d : g ≡ cond w.all (to_all a) a) (i : f ≡ record { address = g; function = w.function; command = w.command; count = 0 }) where
  wished_is : asked f w.body ≡ wished (address_in p) w
  unfolding wished
  wished_is = rw (i, d, e)

  module _ (t : Bool) (s : t ≡ (not (eqb (unit_of a) broadcast_unit) && askable (asked f w.body))) where
    may : t ≡ (not (eqb (unit_of (address_in p)) broadcast_unit) && askable (wished (address_in p) w))
    may = s ∙ rw (e, wished_is)

    pub lays_none : t ≡ false → Lays p p buffer buffer 0 (frame_built p (length buffer) room w) (memory_built p (length buffer) room w)
    lays_none z = built_none p buffer room w h n (sym may ∙ z)

    module _ (y : t ≡ true) where
      -- what the calls that build ask for
      pub wish_short : length w.body ≤ 128
      unfolding wished
      wish_short = asked-short (wished (address_in p) w) (and_parts (not (eqb (unit_of (address_in p)) broadcast_unit)) _ (sym may ∙ y)).1

      pub wish_history : w.function ≡ 4 → (w.command < 64) × (length w.body ≡ 0)
      unfolding wished
      wish_history z = asked-history _ w.function w.command w.body z (and_parts (not (eqb (unit_of (address_in p)) broadcast_unit)) _ (sym may ∙ y)).1

      -- and what they give
      module _ (p' buffer' : List ℕ) (r : ℕ) where
        pub lays_poll : w.function ≡ 4 → Lays p p' buffer buffer' r (frame_polled p room a w.command) (memory_polled p room w.command)
            → Lays p p' buffer buffer' r (frame_built p (length buffer) room w) (memory_built p (length buffer) room w)
        lays_poll z l =
            let frame = poll-frame p buffer room w h n (sym may ∙ y) z (wish_history z).0 in
            let memory = poll-memory p buffer room w h n (sym may ∙ y) z in
            rw (frame, memory, ← e) l

        pub lays_other : (w.function ≡ 4 → ⊥) → Lays p p' buffer buffer' r (frame_chars (asked f w.body)) (turns_in p (record { all = w.all; function = f.function; command = f.command; body = w.body }))
            → Lays p p' buffer buffer' r (frame_built p (length buffer) room w) (memory_built p (length buffer) room w)
        lays_other z l =
            let frame = other-frame p buffer room w h n (sym may ∙ y) z in
            let memory = other-memory p buffer room w h n (sym may ∙ y) z in
            let same : turns_in p (record { all = w.all; function = f.function; command = f.command; body = w.body }) ≡ turns_in p w = rw i in
            rw (frame, memory) (rw (wished_is, same) at l)
