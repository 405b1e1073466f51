-- Outcomes: the number of each, how it is answered, and which are refusals.
use Rattle.std.specs.Prelude.{ℕ, ◌+◌, ◌%◌, Bool, true, false, cond, not, ◌&&◌, ◌||◌, eqb}
use Rattle.model.specs.declared.Outcome.{Outcome}
use Rattle.model.specs.declared.Outcome.TheVariants.{
  Done,
  NotWhole,
  CheckWrong,
  OtherUnit,
  BroadcastDone,
  WriteTaken,
  Unknown,
  WrongCount,
  NotValid,
  TooLong,
  NothingAgain,
  SelectTimedOut,
  BrokenOff,
  SelectHeld,
  NothingWaits,
  WriteHeld,
  BroadcastRefused,
  NotConfigured,
  BufferShort,
}
use Rattle.model.specs.declared.Sending.{Sending}
use Rattle.model.specs.declared.Sending.TheVariants.{Normal, Nop, Rst, Unanswered}
use Rattle.model.specs.declared.Stored.{Stored}
use Rattle.model.specs.declared.Stored.TheVariants.{Kept, Swapped, Full, NotEquipped, WrongValues}
use Rattle.model.specs.declared.Answer.{Answer}
use Rattle.model.specs.declared.Answer.TheVariants.{Ended, Storing, Sampling}

-- the number of each outcome (the table's first column)
abbrev pub number_of : Outcome → ℕ
number_of Done = 0
number_of NotWhole = 1
number_of CheckWrong = 2
number_of OtherUnit = 3
number_of BroadcastDone = 4
number_of WriteTaken = 5
number_of Unknown = 6
number_of WrongCount = 7
number_of NotValid = 8
number_of TooLong = 9
number_of NothingAgain = 10
number_of SelectTimedOut = 11
number_of BrokenOff = 12
number_of SelectHeld = 13
number_of NothingWaits = 14
number_of WriteHeld = 15
number_of BroadcastRefused = 16
number_of NotConfigured = 17
number_of BufferShort = 18

-- what is sent (the table's last column)
abbrev pub sending_of : Outcome → Sending
sending_of Done = Normal
sending_of NotWhole = Unanswered
sending_of CheckWrong = Unanswered
sending_of OtherUnit = Unanswered
sending_of BroadcastDone = Unanswered
sending_of WriteTaken = Unanswered
sending_of Unknown = Nop
sending_of WrongCount = Nop
sending_of NotValid = Nop
sending_of TooLong = Nop
sending_of NothingAgain = Nop
sending_of SelectTimedOut = Nop
sending_of BrokenOff = Rst
sending_of SelectHeld = Rst
sending_of NothingWaits = Rst
sending_of WriteHeld = Rst
sending_of BroadcastRefused = Unanswered
sending_of NotConfigured = Unanswered
sending_of BufferShort = Unanswered

-- a request was carried out, a WRITE or a broadcast too; every other outcome is a refusal
unfoldable pub carried_out : Outcome → Bool
carried_out o = eqb (number_of o) 0 || (eqb (number_of o) 4 || eqb (number_of o) 5)

-- a stretch that was damaged on the way (Frames 13)
unfoldable pub damaged : Outcome → Bool
damaged o = eqb (number_of o) 1 || eqb (number_of o) 2

-- the bits added to a reply's function (Frames 9; paper 1.2.3)
abbrev pub function_bits : Sending → ℕ
function_bits Normal = 0
function_bits Nop = 0x40
function_bits Rst = 0x80
function_bits Unanswered = 0

-- the function of a reply: the low six bits of the master's, and how the request ended (Frames 9)
unfoldable pub reply_function : ℕ → Outcome → ℕ
reply_function f o = f % 64 + function_bits (sending_of o)

-- storing's own numbers; a record is kept by a drop too (History 5; Request 7.2)
abbrev pub stored_number : Stored → ℕ
stored_number Kept = 0
stored_number Swapped = 0
stored_number Full = 1
stored_number NotEquipped = 2
stored_number WrongValues = 3

-- the number that an event is answered with; a sample that was taken is carried out (Request 4.7)
abbrev pub answer_number : Answer → ℕ
answer_number (Ended o) = number_of o
answer_number (Storing s) = stored_number s
answer_number (Sampling s) = 0
