-- How a frame ends by its outcome: the reply and its head.
use Rattle.std.specs.Prelude.{◌≡◌, ℕ, ◌+◌, ◌%◌, List, [], cond, length}
use Rattle.chars.specs.Put.{put}
use Rattle.model.specs.Outcome.{sending_of, reply_function}
use Rattle.model.specs.Step.{answered}
use Rattle.model.specs.declared.Outcome.{Outcome}
use Rattle.model.specs.declared.Reply.{Reply}
use Rattle.frames.specs.Framed.{framed_in}
use Rattle.layout.specs.Numbers.{mark_at}

-- the head of the reply to a frame that found this status and port status, of which a function made o, with n characters of data
abbrev pub head_of : ℕ → ℕ → ℕ → Outcome → ℕ → ℕ → Reply
head_of status address function o n port =
    record { address = address; function = reply_function function o; status = status; port = port; count = n }

-- the characters that a reply lays round its data, if it is one
unfoldable pub replied_in : List ℕ → Outcome → Reply → List ℕ
replied_in entry o head = cond (answered (sending_of o)) (framed_in entry head) []

pub record Replies (entry exit : List ℕ) (o : Outcome) (head : Reply) (n : ℕ) : Type 0 where
  pub counted : n ≡ length (replied_in entry o head)
  pub written : exit ≡ put entry 0 (replied_in entry o head)

-- the port's status by the number of its mark, whatever the kept numbers are
abbrev pub status_at : List ℕ → ℕ
status_at ks = 0x54 + mark_at ks % 4
