-- The memory of a master for the one unit that it polls: where each part stands, what its characters mean, and which are in range.
use Rattle.std.specs.Prelude.{ℕ, ◌+◌, ◌/◌, ◌%◌, List, Bool, cond, ◌&&◌, get_or, eqb, leb, ltb}
use Rattle.chars.specs.Put.{part}
use Rattle.chars.specs.Word.{word_at}
use Rattle.model.specs.Limits.{most_asked, most_data}
use Rattle.model.specs.Frame.{Request}
use Rattle.model.specs.Ask.{to_all}
use Rattle.model.specs.Poll.{Waiting, nothing, history, another, Last, none, last, Polling}

-- ---- where each part stands: one behind the other

-- the address word of master and unit
abbrev pub address_at : ℕ
address_at = 0

-- the retry mark, 0 or 1
abbrev pub retry_at : ℕ
retry_at = address_at + 2

-- 0 where the next history request may have the acknowledge bit, else 1
abbrev pub free_at : ℕ
free_at = retry_at + 1

-- the latest history request: its file, 32 more for a dump, 64 more with the acknowledge bit
abbrev pub latest_at : ℕ
latest_at = free_at + 1

-- what is outstanding: 0 nothing, 1 the latest history request, 2 another, of which function, command, 1 if it went to all units, how many data
abbrev pub waiting_at : ℕ
waiting_at = latest_at + 1

abbrev pub function_at : ℕ
function_at = waiting_at + 1

abbrev pub command_at : ℕ
command_at = function_at + 1

abbrev pub all_at : ℕ
all_at = command_at + 1

abbrev pub count_at : ℕ
count_at = all_at + 1

abbrev pub body_at : ℕ
body_at = count_at + 1

-- 1 where history data were kept, with their file, 32 more for a dump, and how many they are
abbrev pub kept_at : ℕ
kept_at = body_at + most_asked

abbrev pub file_at : ℕ
file_at = kept_at + 1

abbrev pub length_at : ℕ
length_at = file_at + 1

abbrev pub data_at : ℕ
data_at = length_at + 2

abbrev pub poll_length : ℕ
poll_length = data_at + most_data

-- ---- what they mean

unfoldable pub address_in : List ℕ → ℕ
address_in p = word_at p address_at

-- of a request that went to all units or to the one polled
unfoldable pub address_asked : List ℕ → ℕ
address_asked p = cond (eqb (get_or p all_at 0) 1) (to_all (address_in p)) (address_in p)

unfoldable pub asked_in : List ℕ → Request
asked_in p =
    record { address = address_asked p; function = get_or p function_at 0; command = get_or p command_at 0; body = part p body_at (get_or p count_at 0) }

unfoldable pub waiting_in : List ℕ → Waiting
waiting_in p = cond (eqb (get_or p waiting_at 0) 0) nothing (cond (eqb (get_or p waiting_at 0) 1) history (another (asked_in p)))

unfoldable pub last_in : List ℕ → Last
last_in p =
    cond (eqb (get_or p kept_at 0) 1) (last (get_or p file_at 0 % 32) (eqb (get_or p file_at 0 / 32 % 2) 1) (part p data_at (word_at p length_at))) none

unfoldable pub poll_in : List ℕ → Polling
poll_in p =
    record {
      file = get_or p latest_at 0 % 32;
      dump = eqb (get_or p latest_at 0 / 32 % 2) 1;
      bit = eqb (get_or p latest_at 0 / 64 % 2) 1;
      free = eqb (get_or p free_at 0) 0;
      waiting = waiting_in p;
      kept = last_in p;
      retry = eqb (get_or p retry_at 0) 1;
    }

-- ---- which are in range

unfoldable pub in_range : List ℕ → Bool
in_range p =
    (leb (get_or p retry_at 0) 1 && (leb (get_or p free_at 0) 1 && ltb (get_or p latest_at 0) 128))
    && ((leb (get_or p waiting_at 0) 2 && (leb (get_or p all_at 0) 1 && leb (get_or p count_at 0) most_asked))
    && (leb (get_or p kept_at 0) 1 && (ltb (get_or p file_at 0) 64 && leb (word_at p length_at) most_data)))
