-- The clock: Set Time, Read Time, and time that passes.
use Rattle.std.specs.Prelude.{ℕ, ◌+◌, ◌*◌, ◌-◌, ◌/◌, ◌%◌, List, [], ◌∷◌, Bool, true, false, cond, ◌&&◌, get_or, leb}
use Rattle.model.specs.Limits.{most_lag}
use Rattle.model.specs.Frame.{Request}
use Rattle.model.specs.Config.{within}
use Rattle.model.specs.Scan.{Scan, tells, refuses, with_no_data, counts}
use Rattle.model.specs.declared.Outcome.TheVariants.{WrongCount, NotValid}
use Rattle.model.specs.declared.Clock.{Clock}

-- a number to 99 as two decimal digits in one character, and back (Write 14; paper 6.5)
unfoldable pub bcd : ℕ → ℕ
bcd n = n / 10 * 16 + n % 10

unfoldable pub from_bcd : ℕ → ℕ
from_bcd b = b / 16 * 10 + b % 16

-- both halves of a character are decimal digits
unfoldable pub digits : ℕ → Bool
digits b = leb (b / 16) 9 && leb (b % 16) 9

-- a clock in range: day 1 to 366, and so on (Write 14)
unfoldable pub clock_fits : Clock → Bool
clock_fits k =
    within 1 366 k.day && (leb k.hour 23 && (leb k.minute 59 && (leb k.second 59 && leb k.ms 999)))

-- the time that seven characters tell: day hundreds, day rest, hour, minute, second, milliseconds in two (paper 6.5)
unfoldable pub time_in : List ℕ → Clock
time_in s =
    record {
      day = get_or s 0 0 * 100 + from_bcd (get_or s 1 0);
      hour = from_bcd (get_or s 2 0);
      minute = from_bcd (get_or s 3 0);
      second = from_bcd (get_or s 4 0);
      ms = get_or s 5 0 * 256 + get_or s 6 0;
    }

-- every digit is a decimal one, and no top bit is set (Write 14)
unfoldable pub digits_fit : List ℕ → Bool
digits_fit s =
    leb (get_or s 0 0) 9 && (digits (get_or s 1 0) && (digits (get_or s 2 0) && (digits (get_or s 3 0) && (digits (get_or s 4 0) && leb (get_or s 5 0) 15))))

-- the date checks: the digits, then the time that they tell (Write 14)
unfoldable pub time_fits : List ℕ → Bool
time_fits s = digits_fit s && clock_fits (time_in s)

-- a clock as the milliseconds since day 1, 00:00:00.000, and back
unfoldable pub time_of : Clock → ℕ
time_of k = (((k.day - 1) * 24 + k.hour) * 60 + k.minute) * 60000 + k.second * 1000 + k.ms

unfoldable pub clock_at : ℕ → Clock
clock_at t =
    record {
      day = t / 86400000 + 1;
      hour = t / 3600000 % 24;
      minute = t / 60000 % 60;
      second = t / 1000 % 60;
      ms = t % 1000;
    }

-- time passes; after day 366 comes day 1 (Outcomes 9; Write 16)
unfoldable pub clock_after : Clock → ℕ → Clock
clock_after k ms = clock_at ((time_of k + ms) % (366 * 86400000))

-- what Set Time comes to
pub record Timed : Type 0 where
  pub says : Scan
  pub clock : Clock

-- 20h/38h: the clock takes the time sent, which was that of the sync point, moved by the lag since (Write 14, 15; Request 2.3, 2.5)
unfoldable pub set_time_of : ℕ → Clock → Request → Timed
set_time_of lag k q =
    cond (counts 7 q)
    (cond (time_fits q.body && leb lag most_lag)
    (record { says = tells []; clock = clock_after (time_in q.body) lag })
    (record { says = refuses NotValid; clock = k }))
    (record { says = refuses WrongCount; clock = k })

-- the seven characters of a clock (Write 17; paper 7.2)
unfoldable pub time_chars : Clock → List ℕ
time_chars k = k.day / 100 ∷ bcd (k.day % 100) ∷ bcd k.hour ∷ bcd k.minute ∷ bcd k.second ∷ k.ms / 256 ∷ k.ms % 256 ∷ []

-- 28h/31h (Write 17)
unfoldable pub read_time_of : Clock → Request → Scan
read_time_of k q = with_no_data q (tells (time_chars k))
