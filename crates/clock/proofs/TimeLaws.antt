-- Laws of the clock: two decimal digits and back, and what was set is read.
use mathlib.Core.Path.{◌≡◌, refl, sym}
use Prim.Native.Nat.{ℕ, ◌+◌, ◌*◌, ◌/◌, ◌%◌, ◌<◌, ◌≤◌}
use native.Mathlib.Omega.{arith}
use mathlib.Core.List.{List, [], ◌∷◌}
use mathlib.Core.Bool.{Bool, true, false, ◌&&◌, false≢true}
use lib.ListN.{length, get_or}
use lib.Dec.{leb}
use borrow.Author.Tests.{leb-true, eq-eqb}
use Rattle.chars.specs.Word.{Characters}
use Rattle.model.specs.Frame.{Request}
use Rattle.model.specs.Scan.{tells, counts, with_no_data}
use Rattle.model.specs.Clock.{bcd, from_bcd, digits, clock_fits, time_in, digits_fit, time_fits, set_time_of, time_chars, read_time_of}
use Rattle.model.specs.declared.Clock.{Clock}
use Rattle.model.proofs.Times.{after_none}

both : (a b : Bool) → a && b ≡ true → (a ≡ true) × (b ≡ true)
both true b e = (refl, e)
both false b e = absurd (false≢true e)

-- ---- two decimal digits

pub bcd-back : (n : ℕ) → n < 100 → from_bcd (bcd n) ≡ n
unfolding bcd from_bcd
bcd-back n h = omega arith

pub bcd_there : (b : ℕ) → digits b ≡ true → bcd (from_bcd b) ≡ b
unfolding bcd from_bcd digits
bcd_there b e =
    let t = both (leb (b / 16) 9) (leb (b % 16) 9) e in
    let h : b / 16 ≤ 9 = leb-true (b / 16) 9 t.0 in
    let l : b % 16 ≤ 9 = leb-true (b % 16) 9 t.1 in
    omega arith

-- ---- what was set is read

seven : (s : List ℕ) → length s ≡ 7
    → s ≡ get_or s 0 0 ∷ get_or s 1 0 ∷ get_or s 2 0 ∷ get_or s 3 0 ∷ get_or s 4 0 ∷ get_or s 5 0 ∷ get_or s 6 0 ∷ []
seven [] e = absurd (omega arith)
seven (a ∷ []) e = absurd (omega arith)
seven (a ∷ b ∷ []) e = absurd (omega arith)
seven (a ∷ b ∷ c ∷ []) e = absurd (omega arith)
seven (a ∷ b ∷ c ∷ d ∷ []) e = absurd (omega arith)
seven (a ∷ b ∷ c ∷ d ∷ f ∷ []) e = absurd (omega arith)
seven (a ∷ b ∷ c ∷ d ∷ f ∷ g ∷ []) e = absurd (omega arith)
seven (a ∷ b ∷ c ∷ d ∷ f ∷ g ∷ h ∷ []) e = refl
seven (a ∷ b ∷ c ∷ d ∷ f ∷ g ∷ h ∷ i ∷ s) e = absurd (omega arith)

-- the five characters of digits are decimal
record Decimal (s : List ℕ) : Type 0 where
  day : digits (get_or s 1 0) ≡ true
  hour : digits (get_or s 2 0) ≡ true
  minute : digits (get_or s 3 0) ≡ true
  second : digits (get_or s 4 0) ≡ true

decimals : (s : List ℕ) → digits_fit s ≡ true → Decimal s
unfolding digits_fit
decimals s e =
    let last = leb (get_or s 5 0) 15 in
    let a = both (leb (get_or s 0 0) 9) (digits (get_or s 1 0) && (digits (get_or s 2 0) && (digits (get_or s 3 0) && (digits (get_or s 4 0) && last)))) e in
    let b = both (digits (get_or s 1 0)) (digits (get_or s 2 0) && (digits (get_or s 3 0) && (digits (get_or s 4 0) && last))) a.1 in
    let c = both (digits (get_or s 2 0)) (digits (get_or s 3 0) && (digits (get_or s 4 0) && last)) b.1 in
    let d = both (digits (get_or s 3 0)) (digits (get_or s 4 0) && last) c.1 in
    record { day = b.0; hour = c.0; minute = d.0; second = (both (digits (get_or s 4 0)) last d.1).0 }

from_small : (b : ℕ) → digits b ≡ true → from_bcd b < 100
unfolding digits from_bcd
from_small b e =
    let t = both (leb (b / 16) 9) (leb (b % 16) 9) e in
    let h : b / 16 ≤ 9 = leb-true (b / 16) 9 t.0 in
    let l : b % 16 ≤ 9 = leb-true (b % 16) 9 t.1 in
    omega arith

-- the characters of the time that seven characters tell are those seven
pub set-read : (s : List ℕ) → time_fits s ≡ true → length s ≡ 7 → Characters s → time_chars (time_in s) ≡ s
unfolding time_fits time_chars time_in
set-read s ok n chars =
    let d = decimals s (both (digits_fit s) (clock_fits (time_in s)) ok).0 in
    let small : from_bcd (get_or s 1 0) < 100 = from_small (get_or s 1 0) d.day in
    let low : get_or s 6 0 < 256 = chars 6 in
    let hundreds : (get_or s 0 0 * 100 + from_bcd (get_or s 1 0)) / 100 ≡ get_or s 0 0 = omega arith in
    let rest : (get_or s 0 0 * 100 + from_bcd (get_or s 1 0)) % 100 ≡ from_bcd (get_or s 1 0) = omega arith in
    let high : (get_or s 5 0 * 256 + get_or s 6 0) / 256 ≡ get_or s 5 0 = omega arith in
    let low : (get_or s 5 0 * 256 + get_or s 6 0) % 256 ≡ get_or s 6 0 = omega arith in
    rw (
      hundreds,
      rest,
      high,
      low,
      bcd_there (get_or s 1 0) d.day,
      bcd_there (get_or s 2 0) d.hour,
      bcd_there (get_or s 3 0) d.minute,
      bcd_there (get_or s 4 0) d.second,
    ) (sym (seven s n))

-- a Read Time after a Set Time that was taken without a lag sends the characters that were sent
pub set-then-read : (k : Clock) (q p : Request) → time_fits q.body ≡ true → length q.body ≡ 7
    → Characters q.body → length p.body ≡ 0 → read_time_of (set_time_of 0 k q).clock p ≡ tells q.body
unfolding set_time_of read_time_of with_no_data counts
set-then-read k q p ok n chars none =
    let e = after_none (time_in q.body) (unfold time_fits in (both (digits_fit q.body) _ ok).1) in
    simp (eq-eqb (length q.body) 7 n, eq-eqb (length p.body) 0 none, ok, e, set-read q.body ok n chars)
