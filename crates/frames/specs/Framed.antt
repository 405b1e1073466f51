-- A reply laid round data that stand in a buffer already, behind the room for its head; a request laid into a buffer.
use Rattle.std.specs.Prelude.{ℕ, ◌+◌, List, [], ◌∷◌, ◌++◌, cond, ◌&&◌, length, leb}
use Rattle.chars.specs.Put.{part}
use Rattle.chars.specs.Word.{word}
use Rattle.model.specs.Limits.{reply_head, shortest_frame, most_asked}
use Rattle.model.specs.Frame.{Request, reply_chars, frame_chars}
use Rattle.model.specs.declared.Frame.{Frame}
use Rattle.model.specs.declared.Reply.{Reply}

-- the characters of the reply with this head to the data behind its room; none where the buffer cannot hold them
unfoldable pub framed_in : List ℕ → Reply → List ℕ
framed_in entry head = cond (leb (reply_head + head.count + 2) (length entry)) (reply_chars head (part entry reply_head head.count)) []

-- the six characters before the data of a request, of which there are so many (Frames 1; paper 1.1)
unfoldable pub asked_head : Frame → ℕ → List ℕ
asked_head f n = word f.address ++ (f.function ∷ f.command ∷ word n)

-- the characters of a request where so much room is lent; none where it cannot hold them or a frame has not so many data (Frames 1)
unfoldable pub laid_in : ℕ → Request → List ℕ
laid_in room q = cond (leb (length q.body) most_asked && leb (shortest_frame + length q.body) room) (frame_chars q) []
