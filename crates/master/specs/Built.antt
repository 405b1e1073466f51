-- What a call that begins or builds makes of a master's memory, and the frame that it lays.
use Rattle.std.specs.Prelude.{ℕ, ◌+◌, ◌%◌, List, [], ◌∷◌, ◌≡◌, Bool, cond, not, ◌&&◌, length, get_or, replicate, eqb, leb}
use Rattle.chars.specs.Put.{put}
use Rattle.chars.specs.Word.{word}
use Rattle.model.specs.Limits.{longest_frame, most_data}
use Rattle.model.specs.Frame.{unit_of, broadcast_unit, frame_chars}
use Rattle.model.specs.Ask.{askable}
use Rattle.model.specs.Poll.{Wish, wished, builds}
use Rattle.master.specs.Polled.{address_at, free_at, latest_at, waiting_at, function_at, command_at, all_at, count_at, body_at, poll_length, address_in, poll_in, in_range}

-- a fresh master's memory: the address word, and else 0
unfoldable pub begun : ℕ → List ℕ
begun a = put (replicate poll_length 0) address_at (word a)

-- a truth as a character
unfoldable pub char_of : Bool → ℕ
char_of b = cond b 1 0

-- ---- a request built

-- the latest history request after one was built: as wished with the bit where that is free, else the latest again without it (Request 1.5)
unfoldable pub latest_built : List ℕ → ℕ → ℕ
latest_built p command = cond (eqb (get_or p free_at 0) 0) (64 + command) (get_or p latest_at 0 % 64)

unfoldable pub polls_in : List ℕ → ℕ → List ℕ
polls_in p command = put (put (put p latest_at (latest_built p command ∷ [])) free_at (1 ∷ [])) waiting_at (1 ∷ [])

unfoldable pub turns_in : List ℕ → Wish → List ℕ
turns_in p w =
    put (put (put (put (put (put p waiting_at (2 ∷ [])) function_at (w.function ∷ [])) command_at (w.command ∷ [])) all_at (char_of w.all ∷ []))
    count_at (length w.body ∷ [])) body_at w.body

-- history is asked for only where the room for records can take a whole reply: the memory then, and the frame of the latest request
unfoldable pub memory_polled : List ℕ → ℕ → ℕ → List ℕ
memory_polled p room command = cond (leb most_data room) (polls_in p command) p

unfoldable pub frame_polled : List ℕ → ℕ → ℕ → ℕ → List ℕ
frame_polled p room a command =
    cond (leb most_data room) (frame_chars (record { address = a; function = 0x04; command = latest_built p command; body = [] })) []

-- the memory where it is in range and the buffer can hold any frame
unfoldable pub asks_in : List ℕ → ℕ → Wish → List ℕ
asks_in p room w =
    cond (not (eqb (unit_of (address_in p)) broadcast_unit) && askable (wished (address_in p) w))
    (cond (eqb w.function 0x04) (memory_polled p room w.command) (turns_in p w))
    p

-- a memory in range, and a buffer for any frame
unfoldable pub can_build : List ℕ → ℕ → Bool
can_build p buffer = leb longest_frame buffer && in_range p

-- the memory after a call that builds, and the frame that it lays
unfoldable pub memory_built : List ℕ → ℕ → ℕ → Wish → List ℕ
memory_built p buffer room w = cond (can_build p buffer) (asks_in p room w) p

unfoldable pub frame_built : List ℕ → ℕ → ℕ → Wish → List ℕ
frame_built p buffer room w = cond (can_build p buffer) (builds (address_in p) (poll_in p) room w).frame []

-- a call that laid a frame into the front of a buffer, answered its length, and left this memory
pub record Lays (p p' buffer buffer' : List ℕ) (r : ℕ) (frame memory : List ℕ) : Type 0 where
  pub long : r ≡ length frame
  pub laid : buffer' ≡ put buffer 0 frame
  pub kept : p' ≡ memory
