-- The time as one number and back, and times that pass. Assumes nothing.
use Prim.Native.Nat.{ℕ, ◌+◌, ◌*◌, ◌-◌, ◌/◌, ◌%◌, ◌≤◌, ◌<◌}
use mathlib.Core.Path.{◌≡◌, ap, ◌∙◌}
use mathlib.Core.Bool.{true, ◌&&◌}
use lib.Dec.{leb}
use native.Mathlib.Omega.{arith}
use borrow.Author.Tests.{leb-true}
use Rattle.model.specs.Config.{within}
use Rattle.model.specs.Clock.{clock_fits, time_of, clock_at, clock_after}
use Rattle.model.specs.declared.Clock.{Clock}
use Rattle.model.proofs.Conditions.{and_left, and_right}

-- the fields of a clock in range
pub record Ranges (k : Clock) : Type 0 where
  pub first : 1 ≤ k.day
  pub day : k.day ≤ 366
  pub hour : k.hour ≤ 23
  pub minute : k.minute ≤ 59
  pub second : k.second ≤ 59
  pub ms : k.ms ≤ 999

pub ranges : (k : Clock) → clock_fits k ≡ true → Ranges k
unfolding clock_fits within
ranges k e =
    let a = and_left (leb 1 k.day && leb k.day 366) _ e in
    let b = and_right (leb 1 k.day && leb k.day 366) _ e in
    let c = and_right (leb k.hour 23) _ b in
    let d = and_right (leb k.minute 59) _ c in
    record {
      first = leb-true 1 k.day (and_left (leb 1 k.day) _ a);
      day = leb-true k.day 366 (and_right (leb 1 k.day) _ a);
      hour = leb-true k.hour 23 (and_left (leb k.hour 23) _ b);
      minute = leb-true k.minute 59 (and_left (leb k.minute 59) _ c);
      second = leb-true k.second 59 (and_left (leb k.second 59) _ d);
      ms = leb-true k.ms 999 (and_right (leb k.second 59) _ d);
    }

-- a clock by its numbers
clock_is : (t : ℕ) (k : Clock) → t / 86400000 + 1 ≡ k.day → t / 3600000 % 24 ≡ k.hour → t / 60000 % 60 ≡ k.minute
    → t / 1000 % 60 ≡ k.second → t % 1000 ≡ k.ms → clock_at t ≡ k
unfolding clock_at
clock_is t k d h m s r = rw (d, h, m, s, r)

pub clock-time : (k : Clock) → clock_fits k ≡ true → clock_at (time_of k) ≡ k
unfolding time_of
clock-time k fit = let n = ranges k fit in clock_is (time_of k) k (omega arith) (omega arith) (omega arith) (omega arith) (omega arith)

-- a time is its days, hours, minutes, seconds and milliseconds
parts : (t : ℕ) → (((t / 86400000 + 1 - 1) * 24 + t / 3600000 % 24) * 60 + t / 60000 % 60) * 60000 + t / 1000 % 60 * 1000 + t % 1000 ≡ t
parts t =
    let d : t / 3600000 / 24 ≡ t / 86400000 = omega arith in
    let h : t / 60000 / 60 ≡ t / 3600000 = omega arith in
    let m : t / 1000 / 60 ≡ t / 60000 = omega arith in
    omega arith

pub time-clock : (t : ℕ) → t < 366 * 86400000 → time_of (clock_at t) ≡ t
unfolding time_of clock_at
time-clock t h = parts t

time_below : (k : Clock) → clock_fits k ≡ true → time_of k < 366 * 86400000
unfolding time_of
time_below k fit = let n = ranges k fit in omega arith

-- two times in turn are their sum, over day 366 too
pub after-after : (k : Clock) (a b : ℕ) → clock_after (clock_after k a) b ≡ clock_after k (a + b)
unfolding clock_after
after-after k a b =
    let h : (time_of k + a) % (366 * 86400000) < 366 * 86400000 = omega arith in
    let e : ((time_of k + a) % (366 * 86400000) + b) % (366 * 86400000) ≡ (time_of k + (a + b)) % (366 * 86400000) = omega arith in
    rw (time-clock ((time_of k + a) % (366 * 86400000)) h) (ap clock_at e)

-- no time leaves a clock in range as it is
pub after_none : (k : Clock) → clock_fits k ≡ true → clock_after k 0 ≡ k
unfolding clock_after
after_none k fit =
    let h = time_below k fit in
    let e : (time_of k + 0) % (366 * 86400000) ≡ time_of k = omega arith in
    ap clock_at e ∙ clock-time k fit
