-- A master that polls one unit: what it keeps, the request that it builds next, a reply read, and the records that it keeps then.
use Rattle.std.specs.Prelude.{ℕ, ◌+◌, List, [], Bool, true, false, cond, not, ◌&&◌, length, get_or, eqb, leb}
use Rattle.std.specs.Bool.{beq}
use Rattle.chars.specs.Word.{word_at}
use Rattle.model.specs.Limits.{reply_head, most_data, longest_reply}
use Rattle.model.specs.Frame.{Request, unit_of, broadcast_unit, frame_chars, checked}
use Rattle.model.specs.Line.{data_of}
use Rattle.model.specs.History.{dumps, file_of}
use Rattle.model.specs.Ask.{askable, to_all}
use Rattle.model.specs.Believe.{empty, same_chars, records_told, could_tell, could_refuse}
use Rattle.model.specs.declared.Read.{Read}
use Rattle.model.specs.declared.Read.TheVariants.{Normal, NotWhole, CheckWrong, OtherAddress, OtherFunction, NoSuchData, Nop, Rst}

-- ---- what it keeps (Request 1.4 to 1.6)

-- what is outstanding: nothing, the latest history request, or another request
pub data Waiting : Type 0 where
  nothing : Waiting
  history : Waiting
  another : Request → Waiting

-- the last history data kept, with file and kind
pub data Last : Type 0 where
  none : Last
  last : ℕ → Bool → List ℕ → Last

pub record Polling : Type 0 where
  -- the latest history request: file, kind, and whether it had the acknowledge bit
  pub file : ℕ
  pub dump : Bool
  pub bit : Bool
  -- the next may have the bit: there was none yet, or a whole normal or NOP reply to the latest came
  pub free : Bool
  pub waiting : Waiting
  pub kept : Last
  -- the reply before was not believed
  pub retry : Bool

unfoldable pub fresh_polling : Polling
fresh_polling = record { file = 0; dump = false; bit = false; free = true; waiting = nothing; kept = none; retry = false }

-- ---- asking

-- a history request of file f, a dump or not: with the bit where that is free; otherwise the latest again, without it (Request 1.5)
unfoldable pub polls : Polling → ℕ → Bool → Polling
polls m f d =
    record {
      file = cond m.free f m.file;
      dump = cond m.free d m.dump;
      bit = m.free;
      free = false;
      waiting = history;
      kept = m.kept;
      retry = m.retry;
    }

-- any other request
unfoldable pub turns : Polling → Request → Polling
turns m q = record { file = m.file; dump = m.dump; bit = m.bit; free = m.free; waiting = another q; kept = m.kept; retry = m.retry }

-- the latest history request, by the address word of master and unit (paper 3.5.1)
unfoldable pub poll_of : ℕ → Polling → Request
poll_of a m = record { address = a; function = 0x04; command = cond m.bit 64 0 + (cond m.dump 32 0 + m.file); body = [] }

-- what a caller wishes to ask: of all units or of the one polled
pub record Wish : Type 0 where
  pub all : Bool
  pub function : ℕ
  pub command : ℕ
  pub body : List ℕ

unfoldable pub wished : ℕ → Wish → Request
wished a w = record { address = cond w.all (to_all a) a; function = w.function; command = w.command; body = w.body }

-- a frame built, and the master then; figures that make no request build none and change nothing (Request 1.2)
pub record Built : Type 0 where
  pub frame : List ℕ
  pub polling : Polling

unfoldable pub unbuilt : Polling → Built
unbuilt m = record { frame = []; polling = m }

-- history is asked for only while the room lent for records can take a whole reply: what is released then was kept (Request 1.4)
unfoldable pub built_poll : ℕ → Polling → ℕ → Request → Built
built_poll a m room q =
    cond (leb most_data room)
    (record { frame = frame_chars (poll_of a (polls m (file_of q) (dumps q))); polling = polls m (file_of q) (dumps q) })
    (unbuilt m)

-- the master of the address word a, one of a unit and not of all
unfoldable pub builds : ℕ → Polling → ℕ → Wish → Built
builds a m room w =
    cond (not (eqb (unit_of a) broadcast_unit) && askable (wished a w))
    (cond (eqb w.function 0x04) (built_poll a m room (wished a w)) (record { frame = frame_chars (wished a w); polling = turns m (wished a w) }))
    (unbuilt m)

-- ---- reading

-- 9 to 520 characters, and as many as 9 plus the count (Frames 3, 4)
unfoldable pub whole_reply : List ℕ → Bool
whole_reply r = leb (reply_head + 2) (length r) && (leb (length r) longest_reply && eqb (length r) (reply_head + 2 + word_at r 5))

-- whole, checked, and with the address word asked with (Request 1.8)
unfoldable pub read_over : ℕ → List ℕ → Read → Read
read_over a r x = cond (whole_reply r) (cond (checked r) (cond (eqb (word_at r 0) a) x OtherAddress) CheckWrong) NotWhole

-- to a broadcast no unit sends anything (Frames 6; rows 4, 16)
unfoldable pub to_one : Request → Bool
to_one q = not (eqb (unit_of q.address) broadcast_unit)

-- what such a reply is read as, by the request that was sent: normal, NOP or RST by the two high bits of its function, with data that
-- some unit could send (Request 1.2, 1.8; Frames 9)
unfoldable pub read_for : Request → List ℕ → Read
read_for q r =
    cond (eqb (get_or r 2 0) q.function) (cond (to_one q && could_tell q (data_of r)) Normal NoSuchData)
    (cond (eqb (get_or r 2 0) (q.function + 0x40)) (cond (to_one q && could_refuse q (data_of r)) Nop NoSuchData)
    (cond (eqb (get_or r 2 0) (q.function + 0x80)) (cond (to_one q && empty (data_of r)) Rst NoSuchData)
    OtherFunction))

-- a reply as the answer to a request
unfoldable pub read_to : Request → List ℕ → Read
read_to q r = read_over q.address r (read_for q r)

unfoldable pub read_when : Waiting → ℕ → Polling → List ℕ → Read
read_when nothing a m r = read_over a r OtherFunction
read_when history a m r = read_to (poll_of a m) r
read_when (another q) a m r = read_to q r

unfoldable pub reads : ℕ → Polling → List ℕ → Read
reads a m r = read_when m.waiting a m r

-- ---- what a reply changes

-- the last history data kept, file and kind too (Request 1.6)
unfoldable pub is_last : Last → ℕ → Bool → List ℕ → Bool
is_last none f d ys = false
is_last (last g e xs) f d ys = eqb g f && (beq e d && same_chars xs ys)

-- a repeat that equals the last history data kept is not kept again; a reply to an acknowledging request always is (Request 1.6)
unfoldable pub keeps_anew : Polling → List ℕ → Bool
keeps_anew m ys = not (not m.bit && is_last m.kept m.file m.dump ys)

-- a reply that is not believed sets the retry mark and nothing else (Request 1.7)
unfoldable pub doubts : Polling → Polling
doubts m = record { file = m.file; dump = m.dump; bit = m.bit; free = m.free; waiting = m.waiting; kept = m.kept; retry = true }

-- one that is believed clears it, and nothing is outstanding then; the acknowledge bit is free or not
unfoldable pub believes : Polling → Bool → Last → Polling
believes m free kept = record { file = m.file; dump = m.dump; bit = m.bit; free = free; waiting = nothing; kept = kept; retry = false }

-- a reply to the latest history request: RST does not let the bit be set (Request 1.5)
unfoldable pub takes : Polling → List ℕ → Read → Polling
takes m ys Normal = believes m true (cond (keeps_anew m ys) (last m.file m.dump ys) m.kept)
takes m ys NotWhole = doubts m
takes m ys CheckWrong = doubts m
takes m ys OtherAddress = doubts m
takes m ys OtherFunction = doubts m
takes m ys NoSuchData = doubts m
takes m ys Nop = believes m true m.kept
takes m ys Rst = believes m false m.kept

-- a reply was believed
unfoldable pub believed : Read → Bool
believed Normal = true
believed NotWhole = false
believed CheckWrong = false
believed OtherAddress = false
believed OtherFunction = false
believed NoSuchData = false
believed Nop = true
believed Rst = true

-- a reply to another request moves nothing of history
unfoldable pub passes : Polling → Read → Polling
passes m x = cond (believed x) (believes m m.free m.kept) (doubts m)

unfoldable pub polled_when : Waiting → Polling → List ℕ → Read → Polling
polled_when nothing m ys x = doubts m
polled_when history m ys x = takes m ys x
polled_when (another q) m ys x = passes m x

-- the master after a reply
unfoldable pub reading : ℕ → Polling → List ℕ → Polling
reading a m r = polled_when m.waiting m (data_of r) (reads a m r)

-- the records kept of a reply, in the order received: those of a normal reply to the latest history request that is no repeat (Request 1.4, 1.6)
unfoldable pub records_kept : Polling → List ℕ → Read → List (List ℕ)
records_kept m ys Normal = cond (keeps_anew m ys) (records_told ys) []
records_kept m ys NotWhole = []
records_kept m ys CheckWrong = []
records_kept m ys OtherAddress = []
records_kept m ys OtherFunction = []
records_kept m ys NoSuchData = []
records_kept m ys Nop = []
records_kept m ys Rst = []

unfoldable pub kept_when : Waiting → Polling → List ℕ → Read → List (List ℕ)
kept_when nothing m ys x = []
kept_when history m ys x = records_kept m ys x
kept_when (another q) m ys x = []

unfoldable pub received : ℕ → Polling → List ℕ → List (List ℕ)
received a m r = kept_when m.waiting m (data_of r) (reads a m r)
