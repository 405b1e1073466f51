-- Every request that a master builds is heard by the unit's definition as what was meant. Assumes nothing.
use Prim.Native.Nat.{ℕ, ◌+◌, ◌*◌, ◌/◌, ◌%◌, ◌<◌, ◌≤◌}
use mathlib.Core.Path.{◌≡◌, refl, sym, ap, ◌∙◌}
use mathlib.Core.List.{List, [], ◌∷◌}
use mathlib.Core.Bool.{Bool, true, false, cond, not, ◌&&◌, ◌||◌}
use lib.ListN.{length}
use lib.Dec.{eqb, leb, ltb}
use native.Mathlib.Omega.{arith}
use borrow.Author.Tests.{eqb-true, eqb-false, leb-true, ltb-true, eq-eqb, ne_eqb, lt-ltb}
use Rattle.chars.specs.Word.{Characters}
use Rattle.model.specs.Limits.{most_data}
use Rattle.model.specs.Frame.{Request, unit_of, master_of, broadcast_unit, frame_chars}
use Rattle.model.specs.Sound.{Sound}
use Rattle.model.specs.Config.{within}
use Rattle.model.specs.Scan.{counts}
use Rattle.model.specs.Inputs.{unreserved}
use Rattle.model.specs.History.{acknowledges, dumps, file_of}
use Rattle.model.specs.Ask.{good_time, asks_values, asks_control, asks_all, asks_internal, asks_return, asks_one, askable, to_all}
use Rattle.model.specs.Poll.{history as history-waits, Polling, polls, turns, poll_of, Wish, wished, unbuilt, built_poll, builds}
use Rattle.model.specs.Understood.{asks_any, buildable, poll, turn, InFiles, Polls, Asked, Understood}
use Rattle.model.proofs.Conditions.{by_cond, cond_cases, and_left, and_right, and_both, or_cases, false-true}
use Rattle.model.proofs.FrameLaws.{read_back}

-- ---- what is asked, by function

pub within_both : (low high n : ℕ) → within low high n ≡ true → (low ≤ n) × (n ≤ high)
unfolding within
within_both low high n e = (leb-true low n (and_left (leb low n) _ e), leb-true n high (and_right (leb low n) _ e))

pub counted : (n : ℕ) (q : Request) → counts n q ≡ true → length q.body ≡ n
unfolding counts
counted n q e = eqb-true (length q.body) n e

-- the seven functions
pub data Kind (q : Request) : Type 0 where
  inputs : q.function ≡ 0x00 → unreserved q.command ≡ true → counts 0 q ≡ true → Kind q
  calculations : q.function ≡ 0x03 → asks_values q ≡ true → Kind q
  history : q.function ≡ 0x04 → q.command < 128 → counts 0 q ≡ true → Kind q
  tables : q.function ≡ 0x0A → within 0x41 0x4F q.command ≡ true → counts 0 q ≡ true → Kind q
  control : q.function ≡ 0x10 → asks_control q ≡ true → Kind q
  internal : q.function ≡ 0x20 → asks_internal q ≡ true → Kind q
  return : q.function ≡ 0x28 → asks_return q ≡ true → Kind q

module _ (q : Request) where
  kind-one : asks_one q ≡ true → Kind q
  unfolding asks_one
  kind-one h =
      cond_cases (eqb q.function 0x00) _ _ h (λ e k. inputs (eqb-true _ _ e) (and_left (unreserved q.command) _ k) (and_right (unreserved q.command) _ k))
      (λ e h. cond_cases (eqb q.function 0x03) _ _ h (λ e k. calculations (eqb-true _ _ e) k)
      (λ e h. cond_cases (eqb q.function 0x04) _ _ h
      (λ e k. let l = ltb-true q.command 64 (and_left (ltb q.command 64) _ k) in history (eqb-true _ _ e) (omega arith) (and_right (ltb q.command 64) _ k))
      (λ e h. cond_cases (eqb q.function 0x0A) _ _ h
      (λ e k. tables (eqb-true _ _ e) (and_left (within 0x41 0x4F q.command) _ k) (and_right (within 0x41 0x4F q.command) _ k))
      (λ e h. cond_cases (eqb q.function 0x10) _ _ h (λ e k. control (eqb-true _ _ e) k)
      (λ e h. cond_cases (eqb q.function 0x20) _ _ h (λ e k. internal (eqb-true _ _ e) k)
      (λ e h. cond_cases (eqb q.function 0x28) _ _ h (λ e k. return (eqb-true _ _ e) k) (λ e h. false-true h)))))))

  all_internal : asks_all q ≡ true → asks_internal q ≡ true
  unfolding asks_internal
  all_internal h = rw h refl

  kind-askable : askable q ≡ true → Kind q
  unfolding askable
  kind-askable h =
      cond_cases (eqb (unit_of q.address) broadcast_unit) _ _ h
      (λ e k. internal (eqb-true _ _ (and_left (eqb q.function 0x20) _ k)) (all_internal (and_right (eqb q.function 0x20) _ k)))
      (λ e k. kind-one k)

  pub kind_of : asks_any q ≡ true → Kind q
  unfolding asks_any
  kind_of h =
      cond_cases (eqb q.function 0x04) _ _ h
      (λ e k. history (eqb-true _ _ e) (ltb-true _ _ (and_left (ltb q.command 128) _ k)) (and_right (ltb q.command 128) _ k))
      (λ e k. kind-askable k)

-- ---- what is asked fits a frame

record Small (q : Request) : Type 0 where
  function : q.function < 64
  command : q.command < 256
  most : length q.body ≤ 128

module _ (q : Request) where
  good_seven : good_time q.body ≡ true → length q.body ≡ 7
  unfolding good_time
  good_seven h = eqb-true _ _ (and_left (eqb (length q.body) 7) _ h)

  -- a command and a count, each as one test
  exactly : (f c n : ℕ) → f < 64 → c < 256 → n ≤ 128 → q.function ≡ f → (eqb q.command c && counts n q) ≡ true → Small q
  exactly f c n fl cl nl e h =
      let k = eqb-true q.command c (and_left (eqb q.command c) _ h) in
      let l = counted n q (and_right (eqb q.command c) _ h) in
      record { function = omega arith; command = omega arith; most = omega arith }

  between : (f c low high : ℕ) → f < 64 → c < 256 → high ≤ 128 → q.function ≡ f → (eqb q.command c && within low high (length q.body)) ≡ true → Small q
  between f c low high fl cl nl e h =
      let k = eqb-true q.command c (and_left (eqb q.command c) _ h) in
      let l = within_both low high _ (and_right (eqb q.command c) _ h) in
      record { function = omega arith; command = omega arith; most = omega (arith, l.1) }

  ranged : (f low high n : ℕ) → f < 64 → high < 256 → n ≤ 128 → q.function ≡ f → (within low high q.command && counts n q) ≡ true → Small q
  ranged f low high n fl cl nl e h =
      let k = within_both low high _ (and_left (within low high q.command) _ h) in
      let l = counted n q (and_right (within low high q.command) _ h) in
      record { function = omega arith; command = omega (arith, k.1); most = omega arith }

  inputs-low : unreserved q.command ≡ true → q.command < 128
  unfolding unreserved
  inputs-low h =
      let k = and_right (eqb (q.command / 16 % 4) 0) _ (and_right (eqb (q.command / 2 % 2) 0) _ h) in
      omega (arith, eqb-true (q.command / 128) 0 k)

  small_of : Kind q → Small q
  unfolding asks_values asks_control asks_internal asks_all asks_return
  small_of (inputs e u n) = let l = counted 0 q n in record { function = omega arith; command = omega (arith, inputs-low u); most = omega arith }
  small_of (calculations e h) =
      or_cases (eqb q.command 0x80 && counts 0 q) _ h (exactly 0x03 0x80 0 (omega arith) (omega arith) (omega arith) e)
      (between 0x03 0x00 1 128 (omega arith) (omega arith) (omega arith) e)
  small_of (history e l n) = let k = counted 0 q n in record { function = omega arith; command = omega arith; most = omega arith }
  small_of (tables e l n) = ranged 0x0A 0x41 0x4F 0 (omega arith) (omega arith) (omega arith) e (and_both l n)
  small_of (control e h) =
      or_cases (within 0x10 0x11 q.command && counts 1 q) _ h (ranged 0x10 0x10 0x11 1 (omega arith) (omega arith) (omega arith) e)
      (ranged 0x10 0x20 0x21 0 (omega arith) (omega arith) (omega arith) e)
  small_of (internal e h) =
      or_cases (asks_all q) _ h
      (λ k. or_cases (eqb q.command 0x11 && counts 1 q) _ k (exactly 0x20 0x11 1 (omega arith) (omega arith) (omega arith) e)
      (λ k.
      let c = eqb-true q.command 0x38 (and_left (eqb q.command 0x38) _ k) in
      let l = good_seven (and_right (eqb q.command 0x38) _ k) in
      record { function = omega arith; command = omega arith; most = omega arith }))
      (λ k. or_cases (eqb q.command 0x00 && counts 0 q) _ k (exactly 0x20 0x00 0 (omega arith) (omega arith) (omega arith) e)
      (λ k. or_cases (eqb q.command 0x30 && counts 3 q) _ k (exactly 0x20 0x30 3 (omega arith) (omega arith) (omega arith) e)
      (between 0x20 0x31 1 128 (omega arith) (omega arith) (omega arith) e)))
  small_of (return e h) =
      or_cases (eqb q.command 0x30 && counts 4 q) _ h (exactly 0x28 0x30 4 (omega arith) (omega arith) (omega arith) e)
      (exactly 0x28 0x31 0 (omega arith) (omega arith) (omega arith) e)

  pub asks-function : asks_any q ≡ true → q.function < 64
  asks-function h = (small_of (kind_of q h)).function

  pub asks-sound : asks_any q ≡ true → q.address < 65536 → Characters q.body → Sound q
  asks-sound h a b =
      let s = small_of (kind_of q h) in
      record { address = a; function = omega (arith, s.function); command = s.command; body = b; most = s.most }

-- ---- the history request

unset : (n : ℕ) → n ≡ 0 → eqb n 1 ≡ false
unset n e = ne_eqb n 1 (λ k. omega arith)

bits : (b d : Bool) (f : ℕ) → f < 32
    → (cond b 64 0 + (cond d 32 0 + f) < 128) × (eqb ((cond b 64 0 + (cond d 32 0 + f)) / 64 % 2) 1 ≡ b)
    × (eqb ((cond b 64 0 + (cond d 32 0 + f)) / 32 % 2) 1 ≡ d) × ((cond b 64 0 + (cond d 32 0 + f)) % 32 ≡ f)
bits true true f h =
    let x : (64 + (32 + f)) / 64 % 2 ≡ 1 = omega arith in
    let y : (64 + (32 + f)) / 32 % 2 ≡ 1 = omega arith in
    (omega arith, eq-eqb ((64 + (32 + f)) / 64 % 2) 1 x, eq-eqb ((64 + (32 + f)) / 32 % 2) 1 y, omega arith)
bits true false f h =
    let x : (64 + (0 + f)) / 64 % 2 ≡ 1 = omega arith in
    let y : (64 + (0 + f)) / 32 % 2 ≡ 0 = omega arith in
    (omega arith, eq-eqb ((64 + (0 + f)) / 64 % 2) 1 x, unset ((64 + (0 + f)) / 32 % 2) y, omega arith)
bits false true f h =
    let x : (0 + (32 + f)) / 64 % 2 ≡ 0 = omega arith in
    let y : (0 + (32 + f)) / 32 % 2 ≡ 1 = omega arith in
    (omega arith, unset ((0 + (32 + f)) / 64 % 2) x, eq-eqb ((0 + (32 + f)) / 32 % 2) 1 y, omega arith)
bits false false f h =
    let x : (0 + (0 + f)) / 64 % 2 ≡ 0 = omega arith in
    let y : (0 + (0 + f)) / 32 % 2 ≡ 0 = omega arith in
    (omega arith, unset ((0 + (0 + f)) / 64 % 2) x, unset ((0 + (0 + f)) / 32 % 2) y, omega arith)

module _ (a : ℕ) (m : Polling) where
  poll-address : (poll_of a m).address ≡ a
  unfolding poll_of
  poll-address = refl

  poll-function : (poll_of a m).function ≡ 0x04
  unfolding poll_of
  poll-function = refl

  poll-body : (poll_of a m).body ≡ []
  unfolding poll_of
  poll-body = refl

  module _ (h : InFiles m) where
    poll-command : (poll_of a m).command < 128
    unfolding poll_of
    poll-command = (bits m.bit m.dump m.file h).0

    poll-bit : acknowledges (poll_of a m) ≡ m.bit
    unfolding poll_of acknowledges
    poll-bit = (bits m.bit m.dump m.file h).1

    poll-dump : dumps (poll_of a m) ≡ m.dump
    unfolding poll_of dumps
    poll-dump = (bits m.bit m.dump m.file h).2

    poll-file : file_of (poll_of a m) ≡ m.file
    unfolding poll_of file_of
    poll-file = (bits m.bit m.dump m.file h).3

    pub poll-asks : asks_any (poll_of a m) ≡ true
    unfolding asks_any counts
    poll-asks =
        rw (eq-eqb (poll_of a m).function 0x04 poll-function)
        (and_both (lt-ltb (poll_of a m).command 128 poll-command) (eq-eqb (length (poll_of a m).body) 0 (ap length poll-body)))

no_characters : Characters []
no_characters i = omega arith

-- a master's broadcasts are its own, and to all
all-master : (a : ℕ) → master_of (to_all a) ≡ master_of a
unfolding master_of to_all
all-master a = let e : (a / 2048 * 2048 + 2047) / 2048 ≡ a / 2048 = omega arith in ap (λ (n : ℕ). record { 0 = n }) e

all-unit : (a : ℕ) → unit_of (to_all a) ≡ broadcast_unit
unfolding unit_of to_all
all-unit a = omega arith

all-low : (a : ℕ) → a < 65536 → to_all a < 65536
unfolding to_all
all-low a h = omega arith

-- ---- each wish

module _ (a : ℕ) (w : Wish) (low : a < 65536) where
  wished-unit : unit_of (wished a w).address ≡ cond w.all broadcast_unit (unit_of a)
  unfolding wished
  wished-unit = go w.all
    where
      go : (b : Bool) → unit_of (cond b (to_all a) a) ≡ cond b broadcast_unit (unit_of a)
      go true = all-unit a
      go false = refl

  wished-master : master_of (wished a w).address ≡ master_of a
  unfolding wished
  wished-master = by_cond (λ x. master_of x ≡ master_of a) w.all (λ e. all-master a) (λ e. refl)

  wished-body : (wished a w).body ≡ w.body
  unfolding wished
  wished-body = refl

  wished-asks : eqb w.function 0x04 ≡ false → askable (wished a w) ≡ true → asks_any (wished a w) ≡ true
  unfolding asks_any wished
  wished-asks e h = rw e h

  wished-low : (wished a w).address < 65536
  unfolding wished
  wished-low = by_cond (λ x. x < 65536) w.all (λ e. all-low a low) (λ e. low)

-- an empty list
pub no_length : {A : Type 0} (xs : List A) → length xs ≡ 0 → xs ≡ []
no_length [] e = refl
no_length (x ∷ xs) e = absurd (omega arith)

history-empty : (q : Request) → q.function ≡ 0x04 → Kind q → q.body ≡ []
history-empty q e (inputs f u n) = absurd (omega arith)
history-empty q e (calculations f h) = absurd (omega arith)
history-empty q e (history f l n) = no_length q.body (counted 0 q n)
history-empty q e (tables f l n) = absurd (omega arith)
history-empty q e (control f h) = absurd (omega arith)
history-empty q e (internal f h) = absurd (omega arith)
history-empty q e (return f h) = absurd (omega arith)

module _ (a : ℕ) (m : Polling) (room : ℕ) (w : Wish) (low : a < 65536) (body : Characters w.body) (files : InFiles m) where
  abbrev q : Request
  q = wished a w

  turn-asked : eqb w.function 0x04 ≡ false → askable q ≡ true → Asked a m w (record { frame = frame_chars q; polling = turns m q }) q
  turn-asked e h =
      let k = wished-asks a w low e h in
      let s = asks-sound q k (wished-low a w low) (unfold wished in body) in
      let b = read_back q s in
      record {
        sound = s;
        asks = k;
        frame = refl;
        heard = b.0;
        read = b.1;
        unit = wished-unit a w low;
        master = wished-master a w low;
        function = unfold wished in refl;
        body = unfold wished in refl;
        command = λ x. unfold wished in refl;
        polls = λ x. false-true (sym e ∙ x);
        outstanding = turn {q = q} (unfold turns in refl);
        files = unfold turns in files;
      }

  -- the master after a history request: file and kind are those wished, or those of the latest
  abbrev n : Polling
  n = polls m (file_of q) (dumps q)

  polls-files : InFiles n
  unfolding polls file_of
  polls-files = by_cond (λ x. x < 32) m.free (λ e. omega arith) (λ e. files)

  poll-polls : Polls m q (poll_of a n)
  unfolding polls
  poll-polls = record { bit = poll-bit a n polls-files; file = poll-file a n polls-files; kind = poll-dump a n polls-files }

  poll-waits : n.waiting ≡ history-waits
  unfolding polls
  poll-waits = refl

  -- a history request is to one unit
  poll-unit : q.function ≡ 0x04 → askable q ≡ true → unit_of a ≡ cond w.all broadcast_unit (unit_of a)
  unfolding askable
  poll-unit f h =
      cond_cases (eqb (unit_of q.address) broadcast_unit) _ _ h
      (λ b k. let g = eqb-true q.function 0x20 (and_left (eqb q.function 0x20) _ k) in absurd (omega arith))
      (λ b k. go w.all refl (eqb-false _ _ b))
    where
      go : (x : Bool) → w.all ≡ x → (unit_of q.address ≡ broadcast_unit → ⊥) → unit_of a ≡ cond x broadcast_unit (unit_of a)
      go true e b = absurd (b (wished-unit a w low ∙ ap (λ x. cond x broadcast_unit (unit_of a)) e))
      go false e b = refl

  poll-asked : eqb w.function 0x04 ≡ true → askable q ≡ true → Asked a m w (record { frame = frame_chars (poll_of a n); polling = n }) (poll_of a n)
  poll-asked e h =
      let k = poll-asks a n polls-files in
      let s = asks-sound (poll_of a n) k (unfold poll_of in low) (unfold poll_of in no_characters) in
      let b = read_back (poll_of a n) s in
      let f : q.function ≡ 0x04 = (unfold wished in eqb-true w.function 0x04 e) in
      record {
        sound = s;
        asks = k;
        frame = refl;
        heard = b.0;
        read = b.1;
        unit = ap unit_of (poll-address a n) ∙ poll-unit f h;
        master = ap master_of (poll-address a n);
        function = poll-function a n ∙ sym (eqb-true w.function 0x04 e);
        body = poll-body a n ∙ (sym (history-empty q f (kind-askable q h)) ∙ wished-body a w low);
        command = λ x. false-true (sym x ∙ e);
        polls = λ x. poll-polls;
        outstanding = poll poll-waits;
        files = polls-files;
      }

  request_for : Request
  request_for = cond (eqb w.function 0x04) (poll_of a n) q

  built_none : buildable a room w ≡ false → builds a m room w ≡ unbuilt m
  unfolding buildable builds built_poll unbuilt
  built_none h = go (not (eqb (unit_of a) broadcast_unit)) (askable q) (eqb w.function 0x04) (leb most_data room) h
    where
      go : (x y z t : Bool) → (x && (y && (not z || t))) ≡ false
          → cond (x && y) (cond z (cond t (record { frame = frame_chars (poll_of a n); polling = n }) (unbuilt m)) (record { frame = frame_chars q; polling = turns m q })) (unbuilt m) ≡ unbuilt m
      go true true true true h = false-true (sym h)
      go true true true false h = refl
      go true true false t h = false-true (sym h)
      go true false z t h = refl
      go false y z t h = refl

  built_some : buildable a room w ≡ true → Asked a m w (builds a m room w) request_for
  unfolding buildable builds built_poll request_for
  built_some h =
      let x = not (eqb (unit_of a) broadcast_unit) in
      let one = and_left x _ h in
      let asks = and_left (askable q) _ (and_right x _ h) in
      let fits = and_right (askable q) _ (and_right x _ h) in
      rw (one, asks)
      (go (eqb w.function 0x04) (leb most_data room) refl fits asks)
    where
      go : (z t : Bool) → eqb w.function 0x04 ≡ z → (not z || t) ≡ true → askable q ≡ true
          → Asked a m w (cond z (cond t (record { frame = frame_chars (poll_of a n); polling = n }) (unbuilt m)) (record { frame = frame_chars q; polling = turns m q })) (cond z (poll_of a n) q)
      go true true e f k = poll-asked e k
      go true false e f k = false-true f
      go false t e f k = turn-asked e k

  -- THE THEOREM: of every wish there is a frame that is read as meant, or none and nothing changed
  pub understood : Understood a m room w
  understood = record { none = built_none; request = request_for; some = built_some }
