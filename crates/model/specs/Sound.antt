-- Requests that a master can lay out as a frame, and what a stretch that is heard as a whole frame or as a pair shows.
use Rattle.std.specs.Prelude.{◌≡◌, ℕ, ◌+◌, ◌-◌, ◌<◌, ◌≤◌, List, length, take, drop}
use Rattle.chars.specs.Word.{Characters, word_at}
use Rattle.checkword.specs.Check.{check_of}
use Rattle.model.specs.Limits.{shortest_frame, longest_frame, write_frame}
use Rattle.model.specs.Frame.{Request, frame_in}
use Rattle.model.specs.declared.Frame.{Frame}

-- each part fits its place, and the data are no more than a frame takes (Frames 1, 2)
pub record Sound (q : Request) : Type 0 where
  pub address : q.address < 65536
  pub function : q.function < 256
  pub command : q.command < 256
  pub body : Characters q.body
  pub most : length q.body ≤ 128

-- the head of a request
unfoldable pub request_head : Request → Frame
request_head q = record { address = q.address; function = q.function; command = q.command; count = length q.body }

-- s is a whole frame with the head f
pub record WholeFrame (s : List ℕ) (f : Frame) : Type 0 where
  pub head : f ≡ frame_in s
  pub short : shortest_frame ≤ length s
  pub long : length s ≤ longest_frame
  pub count : length s ≡ 8 + f.count
  pub check : word_at s (length s - 2) ≡ check_of (take (length s - 2) s)

-- s is a pair with the heads w and x: a whole WRITE and behind it one whole EXECUTE, both with the same address word (Request 5.2)
pub record WholePair (s : List ℕ) (w x : Frame) : Type 0 where
  pub write : WholeFrame (take write_frame s) w
  pub execute : WholeFrame (drop write_frame s) x
  pub writes : (w.function ≡ 0x20) × (w.command ≡ 0x30)
  pub executes : (x.function ≡ 0x20) × (x.command ≡ 0x31)
  pub address : w.address ≡ x.address
