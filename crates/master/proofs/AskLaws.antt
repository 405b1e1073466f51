-- What follows for a request that may be asked: how many data it has, and what a history request is.
-- Assumes nothing.
use mathlib.Core.Path.{◌≡◌, refl}
use Prim.Native.Nat.{ℕ, ◌<◌, ◌≤◌}
use native.Mathlib.Omega.{arith}
use mathlib.Core.List.{List}
use mathlib.Core.Bool.{Bool, true, false, cond, ◌&&◌, ◌||◌, false≢true}
use lib.ListN.{length}
use lib.Dec.{eqb, leb, ltb}
use borrow.Author.Tests.{eqb-true, leb-true, ltb-true}
use Rattle.model.specs.Frame.{Request, unit_of, broadcast_unit}
use Rattle.model.specs.Config.{within}
use Rattle.model.specs.Scan.{counts}
use Rattle.model.specs.Inputs.{unreserved}
use Rattle.model.specs.Ask.{good_time, asks_values, asks_control, asks_all, asks_internal, asks_return, asks_one, askable}
use Rattle.master.proofs.SameLaws.{and_parts}

-- a request with no more data than a frame has
abbrev Short : Request → Type 0
Short q = length q.body ≤ 128

either : {P : Type 0} (a b : Bool) → (a ≡ true → P) → (b ≡ true → P) → a || b ≡ true → P
either true b f g e = f refl
either false b f g e = g e

by_arm : {P : Type 0} (a x y : Bool) → (x ≡ true → P) → (y ≡ true → P) → cond a x y ≡ true → P
by_arm true x y f g e = f e
by_arm false x y f g e = g e

module _ (q : Request) where
  counted : (b : Bool) (n : ℕ) → n ≤ 128 → b && counts n q ≡ true → Short q
  unfolding counts
  counted b n h e = let l : length q.body ≡ n = eqb-true (length q.body) n (and_parts b _ e).1 in omega arith

  ranged : (b : Bool) → b && within 1 128 (length q.body) ≡ true → Short q
  unfolding within
  ranged b e = leb-true (length q.body) 128 (and_parts (leb 1 (length q.body)) _ (and_parts b _ e).1).1

  timed : (b : Bool) → b && good_time q.body ≡ true → Short q
  unfolding good_time
  timed b e = let l : length q.body ≡ 7 = eqb-true (length q.body) 7 (and_parts (eqb (length q.body) 7) _ (and_parts b _ e).1).0 in omega arith

  abbrev Is : ℕ → Bool
  Is c = eqb q.command c

  abbrev Has : ℕ → Bool
  Has n = counts n q

  abbrev Some : Bool
  Some = within 1 128 (length q.body)

  all_short : asks_all q ≡ true → Short q
  unfolding asks_all
  all_short = either (Is 0x11 && Has 1) (Is 0x38 && good_time q.body) (counted (Is 0x11) 1 (omega arith)) (timed (Is 0x38))

  values-short : asks_values q ≡ true → Short q
  unfolding asks_values
  values-short = either (Is 0x80 && Has 0) (Is 0x00 && Some) (counted (Is 0x80) 0 (omega arith)) (ranged (Is 0x00))

  control_short : asks_control q ≡ true → Short q
  unfolding asks_control
  control_short =
      either (within 0x10 0x11 q.command && Has 1) (within 0x20 0x21 q.command && Has 0)
      (counted (within 0x10 0x11 q.command) 1 (omega arith)) (counted (within 0x20 0x21 q.command) 0 (omega arith))

  internal_short : asks_internal q ≡ true → Short q
  unfolding asks_internal
  internal_short =
      either (asks_all q) ((Is 0x00 && Has 0) || ((Is 0x30 && Has 3) || (Is 0x31 && Some))) all_short
      (either (Is 0x00 && Has 0) ((Is 0x30 && Has 3) || (Is 0x31 && Some)) (counted (Is 0x00) 0 (omega arith))
      (either (Is 0x30 && Has 3) (Is 0x31 && Some) (counted (Is 0x30) 3 (omega arith)) (ranged (Is 0x31))))

  return_short : asks_return q ≡ true → Short q
  unfolding asks_return
  return_short = either (Is 0x30 && Has 4) (Is 0x31 && Has 0) (counted (Is 0x30) 4 (omega arith)) (counted (Is 0x31) 0 (omega arith))

  abbrev For : ℕ → Bool
  For f = eqb q.function f

  none-short : false ≡ true → Short q
  none-short e = absurd (false≢true e)

  -- the later arms of the definition, from the last on
  from_28 : cond (For 0x28) (asks_return q) false ≡ true → Short q
  from_28 = by_arm (For 0x28) (asks_return q) false return_short none-short

  from_20 : cond (For 0x20) (asks_internal q) (cond (For 0x28) (asks_return q) false) ≡ true → Short q
  from_20 = by_arm (For 0x20) (asks_internal q) (cond (For 0x28) (asks_return q) false) internal_short from_28

  abbrev From10 : Bool
  From10 = cond (For 0x10) (asks_control q) (cond (For 0x20) (asks_internal q) (cond (For 0x28) (asks_return q) false))

  from_10 : From10 ≡ true → Short q
  from_10 = by_arm (For 0x10) (asks_control q) (cond (For 0x20) (asks_internal q) (cond (For 0x28) (asks_return q) false)) control_short from_20

  abbrev From0A : Bool
  From0A = cond (For 0x0A) (within 0x41 0x4F q.command && Has 0) From10

  from_0_a : From0A ≡ true → Short q
  from_0_a = by_arm (For 0x0A) (within 0x41 0x4F q.command && Has 0) From10 (counted (within 0x41 0x4F q.command) 0 (omega arith)) from_10

  abbrev From04 : Bool
  From04 = cond (For 0x04) (ltb q.command 64 && Has 0) From0A

  from_04 : From04 ≡ true → Short q
  from_04 = by_arm (For 0x04) (ltb q.command 64 && Has 0) From0A (counted (ltb q.command 64) 0 (omega arith)) from_0_a

  one-short : asks_one q ≡ true → Short q
  unfolding asks_one
  one-short =
      by_arm (For 0x00) (unreserved q.command && Has 0) (cond (For 0x03) (asks_values q) From04) (counted (unreserved q.command) 0 (omega arith))
      (by_arm (For 0x03) (asks_values q) From04 values-short from_04)

  pub asked-short : askable q ≡ true → Short q
  unfolding askable
  asked-short =
      by_arm (eqb (unit_of q.address) broadcast_unit) (For 0x20 && asks_all q) (asks_one q) (λ e. all_short (and_parts (For 0x20) (asks_all q) e).1) one-short

-- a history request has a file and a kind, and no data
history-one : (a f c : ℕ) (ys : List ℕ) → f ≡ 4 → asks_one (record { address = a; function = f; command = c; body = ys }) ≡ true → (c < 64) × (length ys ≡ 0)
unfolding asks_one counts
history-one a f c ys z e =
    let t : ltb c 64 && eqb (length ys) 0 ≡ true = simp z at e in
    let p = and_parts (ltb c 64) (eqb (length ys) 0) t in
    (ltb-true c 64 p.0, eqb-true (length ys) 0 p.1)

pub asked-history : (a f c : ℕ) (ys : List ℕ) → f ≡ 4 → askable (record { address = a; function = f; command = c; body = ys }) ≡ true → (c < 64) × (length ys ≡ 0)
unfolding askable
asked-history a f c ys z =
    let q : Request = record { address = a; function = f; command = c; body = ys } in
    by_arm (eqb (unit_of a) broadcast_unit) (eqb f 0x20 && asks_all q) (asks_one q)
    (λ e. let n : false ≡ true = rw z at (and_parts (eqb f 0x20) (asks_all q) e).0 in absurd (false≢true n)) (history-one a f c ys z)
