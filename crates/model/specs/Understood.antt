-- What a master and a unit make of each other's frames, as statements.
use Rattle.std.specs.Prelude.{ℕ, ◌<◌, ◌≡◌, ◌⊎◌, List, [], Bool, true, false, cond, not, ◌&&◌, ◌||◌, length, take, eqb, leb, ltb}
use Rattle.chars.specs.Word.{Characters}
use Rattle.checkword.specs.Line.{Burst}
use Rattle.model.specs.Limits.{most_data}
use Rattle.model.specs.Frame.{Request, unit_of, master_of, broadcast_unit, heard_of, request_in, frame_chars}
use Rattle.model.specs.Sound.{Sound, request_head}
use Rattle.model.specs.Outcome.{number_of}
use Rattle.model.specs.Config.{within}
use Rattle.model.specs.Scan.{counts}
use Rattle.model.specs.History.{acknowledges, dumps, file_of}
use Rattle.model.specs.Step.{Said, said, Made}
use Rattle.model.specs.Line.{data_of}
use Rattle.model.specs.Ask.{askable}
use Rattle.model.specs.Poll.{history, another, Polling, poll_of, Wish, wished, Built, unbuilt, builds, reads, reading, received}
use Rattle.model.specs.Turns.{OnlyMarked}
use Rattle.model.specs.declared.Outcome.{Outcome}
use Rattle.model.specs.declared.Answer.TheVariants.{Ended}
use Rattle.model.specs.declared.Heard.TheVariants.{Whole}
use Rattle.model.specs.declared.Read.{Read}
use Rattle.model.specs.declared.Read.TheVariants.{Normal, NotWhole, CheckWrong, Nop, Rst}

-- ---- requests (Request 1.3)

-- what a master may send: a request of document 01, and one of history with the acknowledge bit too
unfoldable pub asks_any : Request → Bool
asks_any q = cond (eqb q.function 0x04) (ltb q.command 128 && counts 0 q) (askable q)

-- figures that make a request, and room for what a history request brings
unfoldable pub buildable : ℕ → ℕ → Wish → Bool
buildable a room w = not (eqb (unit_of a) broadcast_unit) && (askable (wished a w) && (not (eqb w.function 0x04) || leb most_data room))

-- a request is outstanding
pub data Outstanding (a : ℕ) (m : Polling) : Request → Type 0 where
  poll : m.waiting ≡ history → Outstanding a m (poll_of a m)
  turn : {q : Request} → m.waiting ≡ another q → Outstanding a m q

-- the master's file is one (History 1)
abbrev pub InFiles : Polling → Type 0
InFiles m = m.file < 32

-- of history: the acknowledge bit as it is free, and without it file and kind of the latest request (Request 1.5)
pub record Polls (m : Polling) (wish q : Request) : Type 0 where
  pub bit : acknowledges q ≡ m.free
  pub file : file_of q ≡ cond m.free (file_of wish) m.file
  pub kind : dumps q ≡ cond m.free (dumps wish) m.dump

-- a frame was built for a wish, and a unit reads it as what was meant: unit, master, function, command, count and data
pub record Asked (a : ℕ) (m : Polling) (w : Wish) (b : Built) (q : Request) : Type 0 where
  pub sound : Sound q
  pub asks : asks_any q ≡ true
  pub frame : b.frame ≡ frame_chars q
  pub heard : heard_of b.frame ≡ Whole (request_head q)
  pub read : request_in (request_head q) b.frame ≡ q
  pub unit : unit_of q.address ≡ cond w.all broadcast_unit (unit_of a)
  pub master : master_of q.address ≡ master_of a
  pub function : q.function ≡ w.function
  pub body : q.body ≡ w.body
  pub command : eqb w.function 0x04 ≡ false → q.command ≡ w.command
  pub polls : eqb w.function 0x04 ≡ true → Polls m (wished a w) q
  pub outstanding : Outstanding a b.polling q
  pub files : InFiles b.polling

-- every wish: a frame that is read so, or none and nothing changed
pub record Understood (a : ℕ) (m : Polling) (room : ℕ) (w : Wish) : Type 0 where
  pub none : buildable a room w ≡ false → builds a m room w ≡ unbuilt m
  pub request : Request
  pub some : buildable a room w ≡ true → Asked a m w (builds a m room w) request

-- ---- replies (Request 1.3, 1.8)

-- normal for outcome 0, NOP for 6 to 11, RST for 12 to 15 (the outcome table's first and last column)
unfoldable pub read_by : Outcome → Read
read_by o = cond (eqb (number_of o) 0) Normal (cond (within 6 11 (number_of o)) Nop Rst)

-- what a unit that made m of a request sent, and how a master reads it: nothing; or by the outcome, with just the data that were said
pub data ReadBack (x : Read) (m : Made) (r : List ℕ) : Type 0 where
  silence : r ≡ [] → ReadBack x m r
  reply : {o : Outcome} {s : Said} → m.answer ≡ Ended o → m.sent ≡ said s → x ≡ read_by o → data_of r ≡ s.chars → ReadBack x m r

-- what came of a reply: without its last one or more characters, or as long and other than it only in bits within sixteen places on the line
pub data Spoils (r : List ℕ) : List ℕ → Type 0 where
  cut : {n : ℕ} → n < length r → Spoils r (take n r)
  changed : {t : List ℕ} {k : ℕ} → Characters r → Characters t → Burst r t k → Spoils r t

-- it is refused for its length or its check, changes nothing but the retry mark, and no record is kept of it
pub record Unbelieved (a : ℕ) (m : Polling) (t : List ℕ) : Type 0 where
  pub read : (reads a m t ≡ NotWhole) ⊎ (reads a m t ≡ CheckWrong)
  pub marked : OnlyMarked m (reading a m t)
  pub nothing : received a m t ≡ []
