-- Frames: a stretch read as a request, a request written by the master's layout, a reply written round its data.
use Rattle.std.specs.Prelude.{ℕ, ◌+◌, ◌*◌, ◌-◌, ◌/◌, ◌%◌, List, ◌∷◌, ◌++◌, Bool, cond, ◌&&◌, length, get_or, take, drop, leb, eqb}
use Rattle.chars.specs.Put.{part}
use Rattle.chars.specs.Word.{word, word_at}
use Rattle.checkword.specs.Check.{check_of}
use Rattle.model.specs.Limits.{shortest_frame, longest_frame, write_frame}
use Rattle.model.specs.declared.Master.{Master}
use Rattle.model.specs.declared.Frame.{Frame}
use Rattle.model.specs.declared.Reply.{Reply}
use Rattle.model.specs.declared.Heard.{Heard}
use Rattle.model.specs.declared.Heard.TheVariants.{Broken, Wrong, Whole, Pair}

-- what a master asks (Frames 1; paper 1.1)
pub record Request : Type 0 where
  pub address : ℕ
  pub function : ℕ
  pub command : ℕ
  pub body : List ℕ

-- the address word: the low 11 bits name the unit, the high 5 the master (Frames 6; paper 1.1.2)
unfoldable pub unit_of : ℕ → ℕ
unit_of a = a % 2048

unfoldable pub master_of : ℕ → Master
master_of a = record { 0 = a / 2048 }

unfoldable pub address_of : Master → ℕ → ℕ
address_of m u = 2048 * (m.0 % 32) + u % 2048

-- a frame to all units (Frames 6)
abbrev pub broadcast_unit : ℕ
broadcast_unit = 0x7FF

-- 8 to 136 characters, and as many as 8 plus the count (row 1)
unfoldable pub whole : List ℕ → Bool
whole s = leb shortest_frame (length s) && (leb (length s) longest_frame && eqb (length s) (8 + word_at s 4))

-- the last two characters are the check of all before them (Frames 7; row 2)
unfoldable pub checked : List ℕ → Bool
checked s = eqb (word_at s (length s - 2)) (check_of (take (length s - 2) s))

-- the head of a frame, where its characters stand (Frames 1)
unfoldable pub frame_in : List ℕ → Frame
frame_in s = record { address = word_at s 0; function = get_or s 2 0; command = get_or s 3 0; count = word_at s 4 }

-- a frame by itself, of function 20h with the command k
unfoldable pub commands : ℕ → List ℕ → Bool
commands k s = whole s && (checked s && (eqb (get_or s 2 0) 0x20 && eqb (get_or s 3 0) k))

-- a WRITE and one EXECUTE with the same address word, each by itself whole and checked (Request 5.2)
unfoldable pub paired : List ℕ → Bool
paired s = commands 0x30 (take write_frame s) && (commands 0x31 (drop write_frame s) && eqb (word_at s 0) (word_at s write_frame))

-- length is judged before the check; only what is no whole frame can be a pair (Outcomes 1; Request 5.6)
unfoldable pub heard_of : List ℕ → Heard
heard_of s =
    cond (whole s) (cond (checked s) (Whole (frame_in s)) Wrong)
    (cond (paired s) (Pair (frame_in (take write_frame s)) (frame_in (drop write_frame s))) Broken)

-- a head and its data
abbrev pub asked : Frame → List ℕ → Request
asked f ys = record { address = f.address; function = f.function; command = f.command; body = ys }

-- the request that a stretch with this head carries: its data stand behind the six characters of the head
unfoldable pub request_in : Frame → List ℕ → Request
request_in f s = asked f (part s 6 f.count)

-- a list with its check characters behind it (Frames 7)
unfoldable pub with_check : List ℕ → List ℕ
with_check s = s ++ word (check_of s)

-- a request as a master lays it out (Frames 1; paper 1.1)
unfoldable pub frame_chars : Request → List ℕ
frame_chars q = with_check (word q.address ++ (q.function ∷ q.command ∷ (word (length q.body) ++ q.body)))

-- the seven characters before a reply's data (Frames 3; paper 1.2)
unfoldable pub head_chars : Reply → List ℕ
head_chars r = word r.address ++ (r.function ∷ r.status ∷ r.port ∷ word r.count)

-- a reply's characters: head, data, check (Frames 3)
unfoldable pub reply_chars : Reply → List ℕ → List ℕ
reply_chars r ys = with_check (head_chars r ++ ys)
