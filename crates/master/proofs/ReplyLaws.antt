-- How a reply is read by a master's memory: what is in range, the request that is outstanding, and each refusal in its order.
-- Assumes nothing.
use mathlib.Core.Path.{◌≡◌, refl, sym, ap, ◌∙◌}
use Prim.Native.Nat.{ℕ, ◌+◌, ◌/◌, ◌%◌, ◌<◌, ◌≤◌}
use native.Mathlib.Omega.{arith}
use mathlib.Core.List.{List, []}
use mathlib.Core.Bool.{Bool, true, false, cond, ◌&&◌}
use lib.ListN.{length, get_or}
use lib.Dec.{eqb, leb, ltb}
use borrow.Author.Tests.{le-leb, lt-leb, leb-true, ltb-true, eq-eqb, ne_eqb, eqb-true, eqb-false}
use Rattle.chars.specs.Put.{part}
use Rattle.chars.specs.Word.{word_at}
use Rattle.model.specs.Frame.{Request, asked, checked}
use Rattle.model.specs.Line.{data_of}
use Rattle.model.specs.Believe.{empty, could_tell, could_refuse}
use Rattle.model.specs.Poll.{nothing, history, another, poll_of, whole_reply, to_one, read_for, read_to, read_over, read_when, reads}
use Rattle.model.specs.declared.Frame.{Frame}
use Rattle.model.specs.declared.Read.{Read}
use Rattle.model.specs.declared.Read.TheVariants.{Normal, NotWhole, CheckWrong, OtherAddress, OtherFunction, NoSuchData, Nop, Rst}
use Rattle.master.specs.Polled.{retry_at, free_at, latest_at, waiting_at, function_at, command_at, all_at, count_at, body_at, kept_at, file_at, length_at, address_in, address_asked, asked_in, waiting_in, poll_in, in_range}
use Rattle.master.specs.Taken.{address_waiting, data_read}
use Rattle.master.proofs.SameLaws.{and_parts}
use Rattle.master.proofs.BuildLaws.{low_six}

-- ---- a memory in range

module _ (p : List ℕ) (n : in_range p ≡ true) where
  abbrev Marks : Bool
  Marks = leb (get_or p retry_at 0) 1 && (leb (get_or p free_at 0) 1 && ltb (get_or p latest_at 0) 128)

  abbrev Waits : Bool
  Waits = leb (get_or p waiting_at 0) 2 && (leb (get_or p all_at 0) 1 && leb (get_or p count_at 0) 128)

  abbrev Keeps : Bool
  Keeps = leb (get_or p kept_at 0) 1 && (ltb (get_or p file_at 0) 64 && leb (word_at p length_at) 511)

  parts : (Marks ≡ true) × (Keeps ≡ true)
  unfolding in_range
  parts = let a = and_parts Marks (Waits && Keeps) n in (a.0, (and_parts Waits Keeps a.1).1)

  pub latest_range : get_or p latest_at 0 < 128
  latest_range =
      ltb-true (get_or p latest_at 0) 128
      (and_parts (leb (get_or p free_at 0) 1) _ (and_parts (leb (get_or p retry_at 0) 1) _ parts.0).1).1

  pub length_range : word_at p length_at ≤ 511
  length_range = leb-true (word_at p length_at) 511 (and_parts (ltb (get_or p file_at 0) 64) _ (and_parts (leb (get_or p kept_at 0) 1) _ parts.1).1).1

-- ---- by the two high bits of the function

module _ (q : Request) (r : List ℕ) (told f : ℕ) (t : told ≡ get_or r 2 0) (g : f ≡ q.function) (x : Read) where
  pub for_normal : told ≡ f → x ≡ cond (to_one q && could_tell q (data_of r)) Normal NoSuchData → x ≡ read_for q r
  unfolding read_for
  for_normal e h = rw (eq-eqb (get_or r 2 0) q.function (sym t ∙ e ∙ g)) h

  module _ (n : told ≡ f → ⊥) where
    other : get_or r 2 0 ≡ q.function → ⊥
    other e = n (t ∙ e ∙ sym g)

    pub for_nop : told ≡ f + 0x40 → x ≡ cond (to_one q && could_refuse q (data_of r)) Nop NoSuchData → x ≡ read_for q r
    unfolding read_for
    for_nop e h = rw (ne_eqb (get_or r 2 0) q.function other, eq-eqb (get_or r 2 0) (q.function + 0x40) (omega arith)) h

    module _ (m : told ≡ f + 0x40 → ⊥) where
      pub for_rst : told ≡ f + 0x80 → x ≡ cond (to_one q && empty (data_of r)) Rst NoSuchData → x ≡ read_for q r
      unfolding read_for
      for_rst e h =
          rw (ne_eqb (get_or r 2 0) q.function other, ne_eqb (get_or r 2 0) (q.function + 0x40) (λ z. m (omega arith)), eq-eqb (get_or r 2 0) (q.function + 0x80) (omega arith)) h

      pub for_none : (told ≡ f + 0x80 → ⊥) → OtherFunction ≡ read_for q r
      unfolding read_for
      for_none l =
          rw (ne_eqb (get_or r 2 0) q.function other, ne_eqb (get_or r 2 0) (q.function + 0x40) (λ z. m (omega arith)), ne_eqb (get_or r 2 0) (q.function + 0x80) (λ z. l (omega arith)))

-- ---- the request that is outstanding

by_high : (x : ℕ) (b : Bool) → x < 128 → eqb (x / 64 % 2) 1 ≡ b → cond b 64 0 + x % 64 ≡ x
by_high x true h e = let k : x / 64 % 2 ≡ 1 = eqb-true (x / 64 % 2) 1 e in omega arith
by_high x false h e = let k : (x / 64 % 2 ≡ 1) → ⊥ = eqb-false (x / 64 % 2) 1 e in omega arith

latest_is : (x : ℕ) → x < 128 → x ≡ cond (eqb (x / 64 % 2) 1) 64 0 + (cond (eqb (x / 32 % 2) 1) 32 0 + x % 32)
latest_is x h = rw (low_six x) (sym (by_high x (eqb (x / 64 % 2) 1) h refl))

pub poll-asked : (p : List ℕ) (f : Frame) (a l : ℕ) → f ≡ record { address = a; function = 4; command = l; count = 0 } → a ≡ address_in p → l ≡ get_or p latest_at 0
    → get_or p latest_at 0 < 128 → asked f [] ≡ poll_of (address_in p) (poll_in p)
unfolding poll_of poll_in
poll-asked p f a l e h k m = rw (e, h, k) (ap (λ (c : ℕ). record { address = address_in p; function = 4; command = c; body = [] }) (latest_is (get_or p latest_at 0) m))

pub same_asked : (p ys : List ℕ) (f : Frame)
    → f ≡ record { address = address_asked p; function = get_or p function_at 0; command = get_or p command_at 0; count = get_or p count_at 0 }
    → ys ≡ part p body_at (get_or p count_at 0) → asked f ys ≡ asked_in p
unfolding asked_in
same_asked p ys f e y = rw (e, y)

module _ (p r : List ℕ) (w : ℕ) (e : w ≡ get_or p waiting_at 0) where
  pub data_nothing : w ≡ 0 → OtherFunction ≡ data_read p r
  unfolding data_read
  data_nothing z = rw (← e, z)

  pub data_poll : w ≡ 1 → read_for (poll_of (address_in p) (poll_in p)) r ≡ data_read p r
  unfolding data_read
  data_poll z = rw (← e, z)

  pub data_asked : (w ≡ 0 → ⊥) → (w ≡ 1 → ⊥) → read_for (asked_in p) r ≡ data_read p r
  unfolding data_read
  data_asked y z = rw (← e, ne_eqb w 0 y, ne_eqb w 1 z)

-- ---- the refusals in their order

module _ (p r : List ℕ) where
  -- the address word, by what is outstanding
  none-address : get_or p waiting_at 0 < 2 → address_waiting p ≡ address_in p
  unfolding address_waiting
  none-address h = rw (lt-leb 2 (get_or p waiting_at 0) h)

  other-address : 2 ≤ get_or p waiting_at 0 → address_waiting p ≡ address_asked p
  unfolding address_waiting address_asked
  other-address h = rw (le-leb 2 (get_or p waiting_at 0) h)

  by_waiting : (b c : Bool) → eqb (get_or p waiting_at 0) 0 ≡ b → eqb (get_or p waiting_at 0) 1 ≡ c
      → read_when (cond b nothing (cond c history (another (asked_in p)))) (address_in p) (poll_in p) r
      ≡ read_over (address_waiting p) r (cond b OtherFunction (cond c (read_for (poll_of (address_in p) (poll_in p)) r) (read_for (asked_in p) r)))
  unfolding read_when read_to asked_in poll_of
  by_waiting true c e h = let z : get_or p waiting_at 0 ≡ 0 = eqb-true (get_or p waiting_at 0) 0 e in rw (none-address (omega arith))
  by_waiting false true e h = let z : get_or p waiting_at 0 ≡ 1 = eqb-true (get_or p waiting_at 0) 1 h in rw (none-address (omega arith))
  by_waiting false false e h =
      let y : (get_or p waiting_at 0 ≡ 0) → ⊥ = eqb-false (get_or p waiting_at 0) 0 e in
      let z : (get_or p waiting_at 0 ≡ 1) → ⊥ = eqb-false (get_or p waiting_at 0) 1 h in
      rw (other-address (omega arith))

  pub reads_over : reads (address_in p) (poll_in p) r ≡ read_over (address_waiting p) r (data_read p r)
  unfolding reads poll_in waiting_in data_read
  reads_over = by_waiting (eqb (get_or p waiting_at 0) 0) (eqb (get_or p waiting_at 0) 1) refl refl

  pub over_broken : whole_reply r ≡ false → NotWhole ≡ reads (address_in p) (poll_in p) r
  unfolding read_over
  over_broken w = rw (reads_over, w)

  module _ (w : whole_reply r ≡ true) where
    pub over_wrong : checked r ≡ false → CheckWrong ≡ reads (address_in p) (poll_in p) r
    unfolding read_over
    over_wrong c = rw (reads_over, w, c)

    module _ (c : checked r ≡ true) (a b : ℕ) (e : a ≡ word_at r 0) (h : b ≡ address_waiting p) where
      pub over_other : (a ≡ b → ⊥) → OtherAddress ≡ reads (address_in p) (poll_in p) r
      unfolding read_over
      over_other n = rw (reads_over, w, c, ne_eqb (word_at r 0) (address_waiting p) (λ z. n (e ∙ z ∙ sym h)))

      pub over_data : a ≡ b → data_read p r ≡ reads (address_in p) (poll_in p) r
      unfolding read_over
      over_data z = rw (reads_over, w, c, eq-eqb (word_at r 0) (address_waiting p) (sym e ∙ z ∙ h))

pub whole_long : (r : List ℕ) → whole_reply r ≡ true → (9 ≤ length r) × (length r ≤ 520)
unfolding whole_reply
whole_long r w =
    let a = and_parts (leb 9 (length r)) _ w in
    let b = and_parts (leb (length r) 520) _ a.1 in
    (leb-true 9 (length r) a.0, leb-true (length r) 520 b.0)
