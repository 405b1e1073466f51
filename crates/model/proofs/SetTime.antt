-- What Set Time leaves in the clock: the time whose seven characters were sent, field by field, moved by the lag, which Read Time then returns.
-- Assumes nothing.
use Prim.Native.Nat.{ℕ, ◌+◌, ◌*◌, ◌/◌, ◌%◌, ◌≤◌, ◌<◌}
use mathlib.Core.Path.{◌≡◌, ap, ◌∙◌}
use mathlib.Core.List.{List, [], ◌∷◌}
use mathlib.Core.Bool.{true}
use native.Mathlib.Omega.{arith}
use borrow.Author.Tests.{le-leb, lt-leb}
use Rattle.model.specs.Limits.{most_lag}
use Rattle.model.specs.Frame.{Request}
use Rattle.model.specs.Scan.{counts, with_no_data, tells, refuses}
use Rattle.model.specs.Clock.{bcd, from_bcd, digits, clock_fits, time_in, digits_fit, time_fits, clock_after, set_time_of, time_chars, read_time_of}
use Rattle.model.specs.Ask.{good_time}
use Rattle.model.specs.declared.Outcome.TheVariants.{NotValid}
use Rattle.model.specs.declared.Clock.{Clock}
use Rattle.model.proofs.Conditions.{and_both}
use Rattle.model.proofs.Times.{ranges, after_none}

bcd-back : (n : ℕ) → n < 100 → from_bcd (bcd n) ≡ n
unfolding from_bcd bcd
bcd-back n h = omega arith

bcd-digits : (n : ℕ) → n < 100 → digits (bcd n) ≡ true
unfolding digits bcd
bcd-digits n h =
    and_both (le-leb ((n / 10 * 16 + n % 10) / 16) 9 (omega arith)) (le-leb ((n / 10 * 16 + n % 10) % 16) 9 (omega arith))

-- the seven characters of a time: day hundreds, day rest, hour, minute and second in decimal digits, milliseconds in two, high first (Write 14)
abbrev seven_of : Clock → List ℕ
seven_of t = t.day / 100 ∷ bcd (t.day % 100) ∷ bcd t.hour ∷ bcd t.minute ∷ bcd t.second ∷ t.ms / 256 ∷ t.ms % 256 ∷ []

clock_of : ℕ → ℕ → ℕ → ℕ → ℕ → Clock
clock_of day hour minute second ms = record { day = day; hour = hour; minute = minute; second = second; ms = ms }

fields : {a b c d e f g i j k : ℕ} → a ≡ f → b ≡ g → c ≡ i → d ≡ j → e ≡ k → clock_of a b c d e ≡ clock_of f g i j k
fields p q r s t = cc

module _ (t : Clock) (h : clock_fits t ≡ true) where
  told_back : time_in (seven_of t) ≡ t
  unfolding time_in clock_of
  told_back =
      let r = ranges t h in
      let day : t.day / 100 * 100 + from_bcd (bcd (t.day % 100)) ≡ t.day = omega (arith, bcd-back (t.day % 100) (omega arith)) in
      let ms : t.ms / 256 * 256 + t.ms % 256 ≡ t.ms = omega arith in
      fields day (bcd-back t.hour (omega arith)) (bcd-back t.minute (omega arith)) (bcd-back t.second (omega arith)) ms

  told-digits : digits_fit (seven_of t) ≡ true
  unfolding digits_fit
  told-digits =
      let r = ranges t h in
      and_both (le-leb (t.day / 100) 9 (omega arith))
      (and_both (bcd-digits (t.day % 100) (omega arith))
      (and_both (bcd-digits t.hour (omega arith))
      (and_both (bcd-digits t.minute (omega arith)) (and_both (bcd-digits t.second (omega arith)) (le-leb (t.ms / 256) 15 (omega arith))))))

  told-fits : time_fits (seven_of t) ≡ true
  unfolding time_fits
  told-fits = and_both told-digits (rw told_back h)

  -- and so they tell a time that is one
  pub good_time_lem : good_time (time_chars t) ≡ true
  unfolding good_time time_chars
  good_time_lem = told-fits

  -- they are taken with every lag up to the most, and the clock is that time moved by it, whatever it was (Request 2.3)
  pub set-time : (lag : ℕ) → lag ≤ most_lag → (k : Clock) (q : Request) → q.body ≡ seven_of t
      → set_time_of lag k q ≡ record { says = tells []; clock = clock_after t lag }
  unfolding set_time_of counts
  set-time lag l k q e = rw (e, told-fits, le-leb lag most_lag l, told_back)

  -- without a lag it is that time
  pub set-time_now : (k : Clock) (q : Request) → q.body ≡ seven_of t → set_time_of 0 k q ≡ record { says = tells []; clock = t }
  set-time_now k q e = set-time 0 (omega arith) k q e ∙ ap (λ (x : Clock). record { says = tells []; clock = x }) (after_none t h)

  -- with more they are refused (Request 2.5)
  pub set_late : (lag : ℕ) → most_lag < lag → (k : Clock) (q : Request) → q.body ≡ seven_of t → set_time_of lag k q ≡ record { says = refuses NotValid; clock = k }
  unfolding set_time_of counts
  set_late lag l k q e = rw (e, told-fits, lt-leb lag most_lag l)

  -- and Read Time returns the time sent, moved by the lag
  pub time-returned : (lag : ℕ) → lag ≤ most_lag → (k : Clock) (q r : Request) → q.body ≡ seven_of t → counts 0 r ≡ true
      → read_time_of (set_time_of lag k q).clock r ≡ tells (seven_of (clock_after t lag))
  unfolding read_time_of with_no_data time_chars
  time-returned lag l k q r e n = rw (set-time lag l k q e, n)
