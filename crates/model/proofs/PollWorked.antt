-- Worked cases of a master: the characters of each request, replies read and refused, and a repeat that is not kept again. Assumes nothing.
use Prim.Native.Nat.{ℕ}
use mathlib.Core.Path.{◌≡◌, refl}
use mathlib.Core.List.{List, [], ◌∷◌, ◌++◌}
use mathlib.Core.Bool.{Bool, true, false}
use lib.ListN.{length, take, set, replicate}
use Rattle.chars.specs.Put.{part}
use Rattle.chars.specs.Word.{word, word_at}
use Rattle.chars.specs.Gather.{gather, up_from, every}
use Rattle.checkword.specs.Check.{bit_step, bit_steps, char_step, check_from}
use Rattle.model.specs.Frame.{Request, unit_of, checked, with_check, frame_chars, head_chars, reply_chars}
use Rattle.model.specs.Config.{within, accumulator}
use Rattle.model.specs.Scan.{counts}
use Rattle.model.specs.Inputs.{unreserved, chosen}
use Rattle.model.specs.Blocks.{known}
use Rattle.model.specs.Clock.{from_bcd, digits, clock_fits, time_in, digits_fit, time_fits}
use Rattle.model.specs.History.{dumps, file_of}
use Rattle.model.specs.Line.{chunks, data_of}
use Rattle.model.specs.Ask.{good_time, asks_values, asks_control, asks_all, asks_internal, asks_return, asks_one, askable, to_all}
use Rattle.model.specs.Believe.{
  empty,
  same_chars,
  stands,
  filled_by,
  entry_at,
  entry_for,
  agrees_with,
  tells_values,
  tells_missing,
  quantity_in,
  size_in,
  records_told,
  stamped,
  all_stamped,
  most_in,
  sized,
  tells_records,
  longest_block,
  shortest_block,
  end_of,
  some_serve,
  all_serve,
  tells_control,
  tells_internal,
  tells_return,
  could_tell,
  could_refuse,
}
use Rattle.model.specs.Poll.{
  fresh_polling,
  polls,
  turns,
  poll_of,
  Wish,
  wished,
  unbuilt,
  built_poll,
  builds,
  whole_reply,
  read_over,
  to_one,
  read_for,
  read_to,
  read_when,
  reads,
  is_last,
  keeps_anew,
  doubts,
  believes,
  takes,
  polled_when,
  reading,
  records_kept,
  kept_when,
  received,
}
use Rattle.model.specs.Turns.{Turn, asking, hearing, after_turn, after_turns, received_by, received_in}
use Rattle.model.specs.declared.Read.{Read}
use Rattle.model.specs.declared.Read.TheVariants.{Normal, NotWhole, CheckWrong, OtherAddress, OtherFunction, NoSuchData, Nop, Rst}

-- ---- requests: master 1 polls unit 1234

abbrev pub address : ℕ
address = 0x0CD2

-- a wish of all units or of this one
abbrev pub wish : Bool → ℕ → ℕ → List ℕ → Wish
wish all f c ys = record { all = all; function = f; command = c; body = ys }

-- what a fresh master builds for it, with room for a whole reply's records
unfoldable pub built : Bool → ℕ → ℕ → List ℕ → List ℕ
built all f c ys = (builds address fresh_polling 511 (wish all f c ys)).frame

pub record Case : Type 0 where
  pub made : List ℕ
  pub told : List ℕ

-- each request, and figures that make none; the check characters were worked apart from the definition
unfoldable pub frames : List Case
frames =
    -- scan of analogs and simple status
    record { made = built false 0x00 0x09 []; told = 0xD2 ∷ 0x0C ∷ 0x00 ∷ 0x09 ∷ 0x00 ∷ 0x00 ∷ 0xD2 ∷ 0x71 ∷ [] }
    -- all calculation values
    ∷ record { made = built false 0x03 0x80 []; told = 0xD2 ∷ 0x0C ∷ 0x03 ∷ 0x80 ∷ 0x00 ∷ 0x00 ∷ 0x03 ∷ 0xDF ∷ [] }
    -- calculation values 1, 2 and 7
    ∷ record { made = built false 0x03 0x00 (0x01 ∷ 0x02 ∷ 0x07 ∷ []); told = 0xD2 ∷ 0x0C ∷ 0x03 ∷ 0x00 ∷ 0x03 ∷ 0x00 ∷ 0x01 ∷ 0x02 ∷ 0x07 ∷ 0xE2 ∷ 0x92 ∷ [] }
    -- a dump of file 3: the first history request has the acknowledge bit
    ∷ record { made = built false 0x04 0x23 []; told = 0xD2 ∷ 0x0C ∷ 0x04 ∷ 0x63 ∷ 0x00 ∷ 0x00 ∷ 0xF3 ∷ 0x5D ∷ [] }
    -- table 5
    ∷ record { made = built false 0x0A 0x45 []; told = 0xD2 ∷ 0x0C ∷ 0x0A ∷ 0x45 ∷ 0x00 ∷ 0x00 ∷ 0x10 ∷ 0x7E ∷ [] }
    -- select of output 12h to close, operate, and 10h/21h
    ∷ record { made = built false 0x10 0x11 (0x12 ∷ []); told = 0xD2 ∷ 0x0C ∷ 0x10 ∷ 0x11 ∷ 0x01 ∷ 0x00 ∷ 0x12 ∷ 0xE7 ∷ 0xF3 ∷ [] }
    ∷ record { made = built false 0x10 0x20 []; told = 0xD2 ∷ 0x0C ∷ 0x10 ∷ 0x20 ∷ 0x00 ∷ 0x00 ∷ 0x07 ∷ 0x79 ∷ [] }
    ∷ record { made = built false 0x10 0x21 []; told = 0xD2 ∷ 0x0C ∷ 0x10 ∷ 0x21 ∷ 0x00 ∷ 0x00 ∷ 0x56 ∷ 0xB9 ∷ [] }
    -- 20h/00
    ∷ record { made = built false 0x20 0x00 []; told = 0xD2 ∷ 0x0C ∷ 0x20 ∷ 0x00 ∷ 0x00 ∷ 0x00 ∷ 0x09 ∷ 0xB3 ∷ [] }
    -- accumulator 40h reset, by this unit and by all
    ∷ record { made = built false 0x20 0x11 (0x40 ∷ []); told = 0xD2 ∷ 0x0C ∷ 0x20 ∷ 0x11 ∷ 0x01 ∷ 0x00 ∷ 0x40 ∷ 0x26 ∷ 0x0A ∷ [] }
    ∷ record { made = built true 0x20 0x11 (0x40 ∷ []); told = 0xFF ∷ 0x0F ∷ 0x20 ∷ 0x11 ∷ 0x01 ∷ 0x00 ∷ 0x40 ∷ 0xDB ∷ 0x3B ∷ [] }
    -- WRITE to ordinal 03 at bias 2, and EXECUTE
    ∷ record { made = built false 0x20 0x30 (0x02 ∷ 0x00 ∷ 0x03 ∷ []); told = 0xD2 ∷ 0x0C ∷ 0x20 ∷ 0x30 ∷ 0x03 ∷ 0x00 ∷ 0x02 ∷ 0x00 ∷ 0x03 ∷ 0x05 ∷ 0x03 ∷ [] }
    ∷ record { made = built false 0x20 0x31 (0x01 ∷ 0x02 ∷ 0x03 ∷ []); told = 0xD2 ∷ 0x0C ∷ 0x20 ∷ 0x31 ∷ 0x03 ∷ 0x00 ∷ 0x01 ∷ 0x02 ∷ 0x03 ∷ 0xF5 ∷ 0xB2 ∷ [] }
    -- day 366, 23:59:59.999, for this unit and for all
    ∷ record { made = built false 0x20 0x38 (0x03 ∷ 0x66 ∷ 0x23 ∷ 0x59 ∷ 0x59 ∷ 0x03 ∷ 0xE7 ∷ []); told = 0xD2 ∷ 0x0C ∷ 0x20 ∷ 0x38 ∷ 0x07 ∷ 0x00 ∷ 0x03 ∷ 0x66 ∷ 0x23 ∷ 0x59 ∷ 0x59 ∷ 0x03 ∷ 0xE7 ∷ 0x59 ∷ 0x12 ∷ [] }
    ∷ record { made = built true 0x20 0x38 (0x03 ∷ 0x66 ∷ 0x23 ∷ 0x59 ∷ 0x59 ∷ 0x03 ∷ 0xE7 ∷ []); told = 0xFF ∷ 0x0F ∷ 0x20 ∷ 0x38 ∷ 0x07 ∷ 0x00 ∷ 0x03 ∷ 0x66 ∷ 0x23 ∷ 0x59 ∷ 0x59 ∷ 0x03 ∷ 0xE7 ∷ 0x31 ∷ 0x3B ∷ [] }
    -- 16 characters of ordinal 03, and the time
    ∷ record { made = built false 0x28 0x30 (0x00 ∷ 0x00 ∷ 0x03 ∷ 0x10 ∷ []); told = 0xD2 ∷ 0x0C ∷ 0x28 ∷ 0x30 ∷ 0x04 ∷ 0x00 ∷ 0x00 ∷ 0x00 ∷ 0x03 ∷ 0x10 ∷ 0xC3 ∷ 0x66 ∷ [] }
    ∷ record { made = built false 0x28 0x31 []; told = 0xD2 ∷ 0x0C ∷ 0x28 ∷ 0x31 ∷ 0x00 ∷ 0x00 ∷ 0x5A ∷ 0x1C ∷ [] }
    -- none: table 0 and table 16
    ∷ record { made = built false 0x0A 0x40 []; told = [] }
    ∷ record { made = built false 0x0A 0x50 []; told = [] }
    -- a reserved kind of input
    ∷ record { made = built false 0x00 0x10 []; told = [] }
    -- no number, and 129 of them
    ∷ record { made = built false 0x03 0x00 []; told = [] }
    ∷ record { made = built false 0x03 0x00 (up_from 0 129); told = [] }
    -- a file over 31
    ∷ record { made = built false 0x04 0x40 []; told = [] }
    -- two numbers to select
    ∷ record { made = built false 0x10 0x10 (0x01 ∷ 0x02 ∷ []); told = [] }
    -- day 367, and a digit that is none
    ∷ record { made = built false 0x20 0x38 (0x03 ∷ 0x67 ∷ 0x00 ∷ 0x00 ∷ 0x00 ∷ 0x00 ∷ 0x00 ∷ []); told = [] }
    ∷ record { made = built false 0x20 0x38 (0x00 ∷ 0x0A ∷ 0x00 ∷ 0x00 ∷ 0x00 ∷ 0x00 ∷ 0x00 ∷ []); told = [] }
    -- a broadcast that is none
    ∷ record { made = built true 0x28 0x31 []; told = [] }
    -- and no room for a whole reply's records
    ∷ record { made = (builds address fresh_polling 510 (wish false 0x04 0x23 [])).frame; told = [] }
    ∷ []

unfoldable pub each_made : List Case → List (List ℕ)
each_made [] = []
each_made (x ∷ xs) = x.made ∷ each_made xs

unfoldable pub each_told : List Case → List (List ℕ)
each_told [] = []
each_told (x ∷ xs) = x.told ∷ each_told xs

-- ---- replies

unfoldable pub ask : ℕ → ℕ → List ℕ → Request
ask f c ys = record { address = address; function = f; command = c; body = ys }

unfoldable pub ask_all : ℕ → List ℕ → Request
ask_all c ys = record { address = to_all address; function = 0x20; command = c; body = ys }

-- the characters of a reply
unfoldable pub answered : ℕ → ℕ → List ℕ → List ℕ
answered a f ys = reply_chars (record { address = a; function = f; status = 0; port = 0x54; count = length ys }) ys

-- a request, the function and data of a reply to it, and what it is read as
pub record Answer : Type 0 where
  pub made : Read
  pub told : Read

unfoldable pub answer : Request → ℕ → List ℕ → Read → Answer
answer q f ys x = record { made = read_to q (answered q.address f ys); told = x }

-- a record of 16 values, and of one
unfoldable pub long : ℕ → List ℕ
long n = n ∷ 0 ∷ 1 ∷ 0 ∷ 0 ∷ 0 ∷ replicate 32 0

unfoldable pub short : ℕ → List ℕ
short n = n ∷ 0 ∷ 1 ∷ 0 ∷ 0 ∷ 0 ∷ 0 ∷ 0 ∷ []

-- what some unit could send, and what none could (Request 1.8)
unfoldable pub answers : List Answer
answers =
    answer (ask 0x00 0x41 []) 0x00 [] Normal
    -- function 00: whole words, no more than the kinds asked for have (16 of simple status), and never NOP
    ∷ answer (ask 0x00 0x01 []) 0x00 (0x01 ∷ 0x02 ∷ 0x03 ∷ 0x04 ∷ []) Normal
    ∷ answer (ask 0x00 0x01 []) 0x00 (0x01 ∷ 0x02 ∷ 0x03 ∷ []) NoSuchData
    ∷ answer (ask 0x00 0x01 []) 0x00 (replicate 34 0) NoSuchData
    ∷ answer (ask 0x00 0x01 []) 0x00 (replicate 32 0) Normal
    ∷ answer (ask 0x00 0x01 []) 0x40 [] NoSuchData
    ∷ answer (ask 0x00 0x01 []) 0x80 [] Rst
    -- 0Ah: whole words, and NOP without data
    ∷ answer (ask 0x0A 0x45 []) 0x0A (0x01 ∷ 0x02 ∷ []) Normal
    ∷ answer (ask 0x0A 0x45 []) 0x0A (0x01 ∷ []) NoSuchData
    ∷ answer (ask 0x0A 0x45 []) 0x4A [] Nop
    ∷ answer (ask 0x0A 0x45 []) 0x4A (0x01 ∷ []) NoSuchData
    -- 03/80h: whole values
    ∷ answer (ask 0x03 0x80 []) 0x03 (0x00 ∷ 0x00 ∷ 0x80 ∷ 0x3F ∷ []) Normal
    ∷ answer (ask 0x03 0x80 []) 0x03 (0x00 ∷ 0x00 ∷ 0x80 ∷ []) NoSuchData
    ∷ answer (ask 0x03 0x80 []) 0x43 [] Nop
    -- 03/00: the numbers asked, in order, the same value for the same number, none over 7Fh
    ∷ answer (ask 0x03 0x00 (0x01 ∷ 0x02 ∷ 0x01 ∷ [])) 0x03 (0x01 ∷ 0x00 ∷ 0x00 ∷ 0x80 ∷ 0x3F ∷ 0x02 ∷ 0x00 ∷ 0x00 ∷ 0x00 ∷ 0x40 ∷ 0x01 ∷ 0x00 ∷ 0x00 ∷ 0x80 ∷ 0x3F ∷ []) Normal
    ∷ answer (ask 0x03 0x00 (0x01 ∷ 0x02 ∷ 0x01 ∷ [])) 0x03 (0x01 ∷ 0x00 ∷ 0x00 ∷ 0x80 ∷ 0x3F ∷ 0x02 ∷ 0x00 ∷ 0x00 ∷ 0x00 ∷ 0x40 ∷ 0x01 ∷ 0x00 ∷ 0x00 ∷ 0x00 ∷ 0x00 ∷ []) NoSuchData
    ∷ answer (ask 0x03 0x00 (0x01 ∷ 0x02 ∷ 0x01 ∷ [])) 0x03 (0x02 ∷ 0x00 ∷ 0x00 ∷ 0x00 ∷ 0x40 ∷ 0x01 ∷ 0x00 ∷ 0x00 ∷ 0x80 ∷ 0x3F ∷ 0x01 ∷ 0x00 ∷ 0x00 ∷ 0x80 ∷ 0x3F ∷ []) NoSuchData
    ∷ answer (ask 0x03 0x00 (0x01 ∷ 0x02 ∷ 0x01 ∷ [])) 0x03 (0x01 ∷ 0x00 ∷ 0x00 ∷ 0x80 ∷ 0x3F ∷ 0x02 ∷ 0x00 ∷ 0x00 ∷ 0x00 ∷ 0x40 ∷ []) NoSuchData
    ∷ answer (ask 0x03 0x00 (0x80 ∷ [])) 0x03 (0x80 ∷ 0x00 ∷ 0x00 ∷ 0x00 ∷ 0x00 ∷ []) NoSuchData
    -- and refused: those of some set, with repeats, all over 7Fh among them; none only where values would not fit
    ∷ answer (ask 0x03 0x00 (0x01 ∷ 0x02 ∷ 0x01 ∷ [])) 0x43 (0x01 ∷ 0x01 ∷ []) Nop
    ∷ answer (ask 0x03 0x00 (0x01 ∷ 0x02 ∷ 0x01 ∷ [])) 0x43 (0x01 ∷ []) NoSuchData
    ∷ answer (ask 0x03 0x00 (0x01 ∷ 0x02 ∷ 0x01 ∷ [])) 0x43 (0x03 ∷ []) NoSuchData
    ∷ answer (ask 0x03 0x00 (0x01 ∷ 0x02 ∷ 0x01 ∷ [])) 0x43 [] NoSuchData
    ∷ answer (ask 0x03 0x00 (0x01 ∷ 0x80 ∷ [])) 0x43 (0x80 ∷ []) Nop
    ∷ answer (ask 0x03 0x00 (0x01 ∷ 0x80 ∷ [])) 0x43 (0x01 ∷ []) NoSuchData
    ∷ answer (ask 0x03 0x00 (up_from 0 103)) 0x43 [] Nop
    -- 04, one record: 00 alone, or one of 8 to 38 characters, with the flag or without, its stamp a time
    ∷ answer (ask 0x04 0x43 []) 0x04 (0x00 ∷ []) Normal
    ∷ answer (ask 0x04 0x43 []) 0x04 (0x80 ∷ []) NoSuchData
    ∷ answer (ask 0x04 0x43 []) 0x04 (0x00 ∷ 0x00 ∷ []) NoSuchData
    ∷ answer (ask 0x04 0x43 []) 0x04 (0x81 ∷ 0x07 ∷ 0x00 ∷ 0x01 ∷ 0x00 ∷ 0x00 ∷ 0x00 ∷ 0x0B ∷ 0x0C ∷ []) Normal
    ∷ answer (ask 0x04 0x43 []) 0x04 (0x02 ∷ 0x07 ∷ 0x00 ∷ 0x01 ∷ 0x00 ∷ 0x00 ∷ 0x00 ∷ 0x0B ∷ 0x0C ∷ 0x07 ∷ 0x00 ∷ 0x01 ∷ 0x00 ∷ 0x00 ∷ 0x02 ∷ 0x15 ∷ 0x16 ∷ []) NoSuchData
    ∷ answer (ask 0x04 0x43 []) 0x04 (0x01 ∷ 0x07 ∷ 0x00 ∷ 0x01 ∷ 0x00 ∷ 0x00 ∷ 0x00 ∷ 0x0B ∷ []) NoSuchData
    ∷ answer (ask 0x04 0x43 []) 0x04 (0x01 ∷ 0x07 ∷ 0x00 ∷ 0x01 ∷ 0x00 ∷ 0x00 ∷ 0x00 ∷ []) NoSuchData
    ∷ answer (ask 0x04 0x43 []) 0x04 (0x01 ∷ 0x07 ∷ 0x00 ∷ 0x00 ∷ 0x00 ∷ 0x00 ∷ 0x00 ∷ 0x0B ∷ 0x0C ∷ []) NoSuchData
    ∷ answer (ask 0x04 0x43 []) 0x04 (0x01 ∷ 0x07 ∷ 0x00 ∷ 0x01 ∷ 0x24 ∷ 0x00 ∷ 0x00 ∷ 0x0B ∷ 0x0C ∷ []) NoSuchData
    ∷ answer (ask 0x04 0x43 []) 0x44 [] Nop
    -- a dump: with the flag only as many as fit and fewer than a file holds, 13 of 38 characters and not 2 of 8
    ∷ answer (ask 0x04 0x63 []) 0x04 (0x02 ∷ 0x07 ∷ 0x00 ∷ 0x01 ∷ 0x00 ∷ 0x00 ∷ 0x00 ∷ 0x0B ∷ 0x0C ∷ 0x07 ∷ 0x00 ∷ 0x01 ∷ 0x00 ∷ 0x00 ∷ 0x02 ∷ 0x15 ∷ 0x16 ∷ []) Normal
    ∷ answer (ask 0x04 0x63 []) 0x04 (0x82 ∷ 0x07 ∷ 0x00 ∷ 0x01 ∷ 0x00 ∷ 0x00 ∷ 0x00 ∷ 0x0B ∷ 0x0C ∷ 0x07 ∷ 0x00 ∷ 0x01 ∷ 0x00 ∷ 0x00 ∷ 0x02 ∷ 0x15 ∷ 0x16 ∷ []) NoSuchData
    ∷ answer (ask 0x04 0x63 []) 0x04 (0x8D ∷ gather long (up_from 0 13)) Normal
    ∷ answer (ask 0x04 0x63 []) 0x04 (0x21 ∷ gather short (up_from 0 33)) NoSuchData
    -- 10h: a select echoes its number, an operate nothing; 10h/21h is never carried out
    ∷ answer (ask 0x10 0x11 (0x12 ∷ [])) 0x10 (0x12 ∷ []) Normal
    ∷ answer (ask 0x10 0x11 (0x12 ∷ [])) 0x10 (0x13 ∷ []) NoSuchData
    ∷ answer (ask 0x10 0x11 (0x12 ∷ [])) 0x90 (0x12 ∷ []) NoSuchData
    ∷ answer (ask 0x10 0x20 []) 0x10 [] Normal
    ∷ answer (ask 0x10 0x20 []) 0x50 [] Nop
    ∷ answer (ask 0x10 0x21 []) 0x10 [] NoSuchData
    ∷ answer (ask 0x10 0x21 []) 0x50 [] NoSuchData
    ∷ answer (ask 0x10 0x21 []) 0x90 [] Rst
    -- 20h: 20h/00 is not refused by NOP, a WRITE is answered by RST alone, 20h/11h echoes an accumulator
    ∷ answer (ask 0x20 0x00 []) 0x20 [] Normal
    ∷ answer (ask 0x20 0x00 []) 0x60 [] NoSuchData
    ∷ answer (ask 0x20 0x11 (0x40 ∷ [])) 0x20 (0x40 ∷ []) Normal
    ∷ answer (ask 0x20 0x11 (0x60 ∷ [])) 0x20 (0x60 ∷ []) NoSuchData
    ∷ answer (ask 0x20 0x11 (0x60 ∷ [])) 0x60 [] Nop
    ∷ answer (ask 0x20 0x30 (0x02 ∷ 0x00 ∷ 0x03 ∷ [])) 0x20 [] NoSuchData
    ∷ answer (ask 0x20 0x30 (0x02 ∷ 0x00 ∷ 0x03 ∷ [])) 0x60 [] NoSuchData
    ∷ answer (ask 0x20 0x30 (0x02 ∷ 0x00 ∷ 0x03 ∷ [])) 0xA0 [] Rst
    ∷ answer (ask 0x20 0x31 (0x01 ∷ 0x02 ∷ 0x03 ∷ [])) 0x20 [] Normal
    ∷ answer (ask 0x20 0x38 (0x03 ∷ 0x66 ∷ 0x23 ∷ 0x59 ∷ 0x59 ∷ 0x03 ∷ 0xE7 ∷ [])) 0x60 [] Nop
    -- 28h/30h: the quantity asked of a part that some unit has; NOP with the request's data, of a part that some unit lacks
    ∷ answer (ask 0x28 0x30 (0x00 ∷ 0x00 ∷ 0x00 ∷ 0x02 ∷ [])) 0x28 (0x05 ∷ 0x06 ∷ []) Normal
    ∷ answer (ask 0x28 0x30 (0x00 ∷ 0x00 ∷ 0x00 ∷ 0x02 ∷ [])) 0x28 (0x05 ∷ []) NoSuchData
    ∷ answer (ask 0x28 0x30 (0x00 ∷ 0x00 ∷ 0x00 ∷ 0x02 ∷ [])) 0x68 (0x00 ∷ 0x00 ∷ 0x00 ∷ 0x02 ∷ []) NoSuchData
    ∷ answer (ask 0x28 0x30 (0x0F ∷ 0x00 ∷ 0x00 ∷ 0x02 ∷ [])) 0x28 (0x05 ∷ 0x06 ∷ []) NoSuchData
    ∷ answer (ask 0x28 0x30 (0x0F ∷ 0x00 ∷ 0x00 ∷ 0x02 ∷ [])) 0x68 (0x0F ∷ 0x00 ∷ 0x00 ∷ 0x02 ∷ []) Nop
    ∷ answer (ask 0x28 0x30 (0x0F ∷ 0x00 ∷ 0x00 ∷ 0x02 ∷ [])) 0x68 [] NoSuchData
    ∷ answer (ask 0x28 0x30 (0xFE ∷ 0x01 ∷ 0x06 ∷ 0x02 ∷ [])) 0x28 (0x05 ∷ 0x06 ∷ []) Normal
    ∷ answer (ask 0x28 0x30 (0xFE ∷ 0x01 ∷ 0x06 ∷ 0x02 ∷ [])) 0x68 (0xFE ∷ 0x01 ∷ 0x06 ∷ 0x02 ∷ []) Nop
    ∷ answer (ask 0x28 0x30 (0x00 ∷ 0x00 ∷ 0x05 ∷ 0x01 ∷ [])) 0x28 (0x05 ∷ []) NoSuchData
    -- 28h/31h: a time, and never NOP
    ∷ answer (ask 0x28 0x31 []) 0x28 (0x03 ∷ 0x66 ∷ 0x23 ∷ 0x59 ∷ 0x59 ∷ 0x03 ∷ 0xE7 ∷ []) Normal
    ∷ answer (ask 0x28 0x31 []) 0x28 (0x03 ∷ 0x67 ∷ 0x23 ∷ 0x59 ∷ 0x59 ∷ 0x03 ∷ 0xE7 ∷ []) NoSuchData
    ∷ answer (ask 0x28 0x31 []) 0x68 [] NoSuchData
    -- NOP and RST both, and another function
    ∷ answer (ask 0x04 0x43 []) 0xC4 [] OtherFunction
    ∷ answer (ask 0x04 0x43 []) 0x0A [] OtherFunction
    -- no unit answers a broadcast
    ∷ answer (ask_all 0x11 (0x40 ∷ [])) 0x20 (0x40 ∷ []) NoSuchData
    ∷ answer (ask_all 0x11 (0x40 ∷ [])) 0x28 [] OtherFunction
    ∷ []

unfoldable pub answers_made : List Answer → List Read
answers_made [] = []
answers_made (x ∷ xs) = x.made ∷ answers_made xs

unfoldable pub answers_told : List Answer → List Read
answers_told [] = []
answers_told (x ∷ xs) = x.told ∷ answers_told xs

-- ---- the refusals in their order: each of these has the faults of all below it too

abbrev pub single : Request
single = record { address = address; function = 0x04; command = 0x43; body = [] }

-- of master 2, with a function and data that are none
unfoldable pub foreign : List ℕ
foreign = answered 0x14D2 0xC4 (9 ∷ [])

unfoldable pub in_order : List Read
in_order =
    read_to single (take 9 (set foreign 9 0)) ∷ read_to single (foreign ++ (0 ∷ [])) ∷ read_to single (set foreign 9 0) ∷ read_to single foreign ∷ read_to single (answered address 0xC4 (9 ∷ []))
    ∷ read_to single (answered address 0x04 (9 ∷ [])) ∷ read_to single (answered address 0x04 (0 ∷ [])) ∷ []

-- ---- a repeat

abbrev pub dump : Turn
dump = asking 511 (wish false 0x04 0x23 [])

-- another file is wished
abbrev pub other : Turn
other = asking 511 (wish false 0x04 0x05 [])

abbrev pub first : List ℕ
first = 7 ∷ 0 ∷ 1 ∷ 0 ∷ 0 ∷ 0 ∷ 11 ∷ 12 ∷ []

abbrev pub second : List ℕ
second = 7 ∷ 0 ∷ 1 ∷ 0 ∷ 0 ∷ 2 ∷ 21 ∷ 22 ∷ []

unfoldable pub reply : Turn
reply = hearing (answered address 0x04 (2 ∷ first ++ second))

-- what is built at last after such turns
unfoldable pub next_frame : List Turn → List ℕ
next_frame ts = (builds address (after_turns address fresh_polling ts) 511 (wish false 0x04 0x05 [])).frame

unfoldable pub marked : List Turn → Bool
marked ts = (after_turns address fresh_polling ts).retry

pub record Worked : Type 0 where
  pub requests : each_made frames ≡ each_told frames
  pub replies : answers_made answers ≡ answers_told answers
  pub order : in_order ≡ NotWhole ∷ NotWhole ∷ CheckWrong ∷ OtherAddress ∷ OtherFunction ∷ NoSuchData ∷ Normal ∷ []
  -- two records are kept; the next request acknowledges them, and is lost; its repeat has no bit, and the kind and the file of the latest
  pub kept : received_in address fresh_polling (dump ∷ reply ∷ []) ≡ first ∷ second ∷ []
  pub repeat : next_frame (dump ∷ reply ∷ dump ∷ []) ≡ 0xD2 ∷ 0x0C ∷ 0x04 ∷ 0x23 ∷ 0x00 ∷ 0x00 ∷ 0xF2 ∷ 0x89 ∷ []
  -- the unit sends them again: they are not kept again, and then the next one has the bit
  pub once : received_in address fresh_polling (dump ∷ reply ∷ dump ∷ other ∷ reply ∷ []) ≡ first ∷ second ∷ []
  pub acknowledges : next_frame (dump ∷ reply ∷ dump ∷ other ∷ reply ∷ dump ∷ reply ∷ []) ≡ 0xD2 ∷ 0x0C ∷ 0x04 ∷ 0x45 ∷ 0x00 ∷ 0x00 ∷ 0x12 ∷ 0x96 ∷ []
  -- the same data for a request with the bit are records that are alike
  pub twice : received_in address fresh_polling (dump ∷ reply ∷ dump ∷ reply ∷ []) ≡ first ∷ second ∷ first ∷ second ∷ []
  -- a reply that comes twice is refused the second time, and sets the retry mark, which the next one that is believed clears
  pub doubled : received_in address fresh_polling (dump ∷ reply ∷ reply ∷ []) ≡ first ∷ second ∷ []
  pub retries : marked (dump ∷ reply ∷ reply ∷ dump ∷ []) ≡ true
  pub clears : marked (dump ∷ reply ∷ reply ∷ dump ∷ reply ∷ []) ≡ false

pub worked : Worked
unfolding
    built frames each_made each_told ask ask_all answered answer long short answers answers_made answers_told foreign in_order reply next_frame marked
    part word word_at gather up_from every bit_step bit_steps char_step check_from
    unit_of checked with_check frame_chars head_chars reply_chars within accumulator counts unreserved chosen known from_bcd digits clock_fits time_in digits_fit time_fits
    dumps file_of chunks data_of good_time asks_values asks_control asks_all asks_internal asks_return asks_one askable to_all
    empty same_chars stands filled_by entry_at entry_for agrees_with tells_values tells_missing quantity_in size_in records_told stamped all_stamped most_in sized
    tells_records longest_block shortest_block end_of some_serve all_serve tells_control tells_internal tells_return could_tell could_refuse
    fresh_polling polls turns poll_of wished unbuilt built_poll builds whole_reply read_over to_one read_for read_to read_when reads is_last keeps_anew doubts believes
    takes polled_when reading records_kept kept_when received after_turn after_turns received_by received_in
worked =
    record {
      requests = refl;
      replies = refl;
      order = refl;
      kept = refl;
      repeat = refl;
      once = refl;
      acknowledges = refl;
      twice = refl;
      doubled = refl;
      retries = refl;
      clears = refl;
    }
