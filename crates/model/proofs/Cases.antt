-- Cases 1 to 12 of document 01's bench cases, and pairs: a table of each, and one statement that the definitions make of each case what
-- its table tells.
-- Assumes nothing.
use Rattle.std.specs.Prelude.{None, Option, Some}
use mathlib.Core.Path.{◌≡◌, refl}
use Prim.Native.Nat.{ℕ, zero, suc}
use mathlib.Core.List.{List, [], ◌∷◌, ◌++◌}
use mathlib.Core.Bool.{cond}
use lib.ListN.{length, get_or, take, set, replicate}
use Rattle.chars.specs.Put.{put, part}
use Rattle.chars.specs.Word.{word, value, word_at}
use Rattle.chars.specs.Gather.{gather, up_from, every}
use Rattle.checkword.specs.Check.{bit_step, bit_steps, char_step, check_from, check_of}
use Rattle.model.specs.Frame.{unit_of, master_of, whole, checked, frame_in, commands, paired, heard_of, request_in, with_check, frame_chars, head_chars, reply_chars}
use Rattle.model.specs.Outcome.{damaged, reply_function, answer_number}
use Rattle.model.specs.Config.{Config, has, within, two_bit, accumulator, none_in, file_valid, window_at, mean_valid, means_valid, valid_of, has_file, keeps_oldest, has_calculation, size_of}
use Rattle.model.specs.State.{held_in, store_in, cut_in, fresh_core, fresh_areas, fresh_history, fresh_port, fresh_of}
use Rattle.model.specs.Change.{applied, dropped_after, added_by, changed_by}
use Rattle.model.specs.Scan.{counts, with_no_data}
use Rattle.model.specs.Inputs.{unreserved, chosen, word_of, inputs_of, has_accumulator, pulses_of}
use Rattle.model.specs.Contacts.{asks_for, group_in, groups_carried, anew, unmarked, untallied, areas_anew}
use Rattle.model.specs.Means.{samples_at}
use Rattle.model.specs.Control.{is_of, takes, select_when, operate_when, select_of, control_of, operates, breaks, held_after}
use Rattle.model.specs.Blocks.{known, ordinal_start, block_of, reaches, waits_for, write_when, write_of, not_executed, executes, execute_when, execute_of, dropped, waits_after}
use Rattle.model.specs.Clock.{bcd, from_bcd, digits, clock_fits, time_in, digits_fit, time_fits, set_time_of, time_of, clock_at, clock_after}
use Rattle.model.specs.History.{
  acknowledges,
  dumps,
  file_of,
  flat,
  history_chars,
  freed_for,
  most_of,
  told_from,
  tell_of,
  history_of,
  record_chars,
  spared_in,
  full_as,
  stored_when,
  stored_as,
}
use Rattle.model.specs.Plans.{empty_plans, planned, plans_fit}
use Rattle.model.specs.Fits.{
  master_fits,
  hold_fits,
  write_fits,
  core_fits,
  givable,
  reply_fits,
  memory_fits,
  file_fits,
  history_fits,
  samples_fit,
  areas_fit,
  port_fits,
  fits,
}
use Rattle.model.specs.Event.{pulses, store, Event, elapsed, local}
use Rattle.model.specs.Step.{
  controlled,
  timed,
  written,
  executed,
  scanned,
  internal_of,
  other_of,
  status_of,
  sent_as,
  answered,
  quiet,
  settled,
  finished,
  alone,
  telling,
  internal_step,
  step_of,
  areas_left,
  served,
  framed,
  broadcast_of,
  broadcast_made,
  followed,
  broken_off,
  judged,
  core_after,
  elapsed_made,
  local_made,
  word_made,
  noted_in,
  store_made,
  local_of,
  make_of,
}
use Rattle.model.specs.Port.{mark_number, port_status, sent_chars, mark_after, silent_after, port_heard, port_after}
use Rattle.model.specs.Run.{short, turned_away, shows, moves, decided, result_of, next_of, after_from, after}
use Rattle.model.specs.Bench.{bench_config, hears}
use Rattle.model.specs.declared.Operation.{Operation}

-- ---- the units and events of the cases

-- the bench unit, with output 1 and file 0 of so many values, which keeps the oldest (Request 7.3)
unfoldable pub wider : ℕ → Config
wider v =
    record {
      unit = bench_config.unit;
      inputs = bench_config.inputs;
      outputs = set (replicate 256 0) 1 1;
      calculations = replicate 256 0;
      files = set (replicate 32 0) 0 1;
      values = set (replicate 32 0) 0 v;
      oldest = set (replicate 32 0) 0 1;
      block = 0;
      means = replicate 16 0;
      sampled = replicate 16 0;
      windows = replicate 16 0;
    }

-- a good frame of master 1 to unit 1234, and a buffer that is long enough
unfoldable pub frame : ℕ → ℕ → List ℕ → List ℕ
frame f c ys = frame_chars (record { address = 0x0CD2; function = f; command = c; body = ys })

unfoldable pub asks : ℕ → ℕ → List ℕ → Event
asks f c ys = hears (frame f c ys)

unfoldable pub scan : Event
scan = asks 0x00 0x41 []

-- that frame with one bit changed
unfoldable pub damage : Event
damage = hears (0xD2 ∷ 0x0C ∷ 0x00 ∷ 0x41 ∷ 0x00 ∷ 0x00 ∷ 0x53 ∷ 0x67 ∷ [])

-- 20h/30h for ordinal 03 from its start on
unfoldable pub writes : Event
writes = asks 0x20 0x30 (0 ∷ 0 ∷ 3 ∷ [])

-- a record of 16 values 0102h in file 0, of event type n; as many of them, types ascending
unfoldable pub record16 : ℕ → Event
record16 n = local (store (record { 0 = 0 }) n (replicate 16 258))

unfoldable pub records16 : ℕ → ℕ → List Event
records16 from zero = []
records16 from (suc n) = record16 from ∷ records16 (suc from) n

unfoldable pub set_day : ℕ → ℕ → Event
set_day hundreds rest = asks 0x20 0x38 (hundreds ∷ rest ∷ 0x23 ∷ 0x59 ∷ 0x59 ∷ 0x03 ∷ 0xE7 ∷ [])

-- ---- what they show

-- the characters of such a record, stored on day 1 at 00:00:00
unfoldable pub chars16 : ℕ → List ℕ
chars16 n = n ∷ 0 ∷ 1 ∷ 0 ∷ 0 ∷ 0 ∷ gather (λ k. 2 ∷ 1 ∷ []) (up_from 0 16)

-- the fields of the clock after events
unfoldable pub clock_of : List Event → List ℕ
clock_of es =
    let k = (after bench_config es).inner.core.clock in
    k.day ∷ k.hour ∷ k.minute ∷ k.second ∷ k.ms ∷ []

unfoldable pub acted : Option Operation → List ℕ
acted None = []
acted (Some o) = o.output.0 ∷ cond o.close 1 0 ∷ []

-- the number that the event e is answered with after the events es, and the output action
unfoldable pub outcome_of : Config → List Event → Event → List ℕ
outcome_of c es e = answer_number (result_of c (after c es) e).answer ∷ acted (result_of c (after c es) e).action

unfoldable pub reply_of : Config → List Event → Event → List ℕ
reply_of c es e = (result_of c (after c es) e).reply

pub record Case : Type 0 where
  pub number : ℕ
  pub made : List ℕ
  pub told : List ℕ

unfoldable pub check_case : ℕ → List ℕ → List ℕ → Case
check_case n s ys = record { number = n; made = word (check_of s); told = ys }

unfoldable pub table : List Case
table =
    check_case 1 (0xD2 ∷ 0x0C ∷ 0x00 ∷ 0x41 ∷ 0x00 ∷ 0x00 ∷ []) (0x52 ∷ 0x67 ∷ [])
    ∷ check_case 2 (0xD2 ∷ 0x04 ∷ 0x00 ∷ 0x49 ∷ 0x00 ∷ 0x00 ∷ []) (0x32 ∷ 0x64 ∷ [])
    ∷ check_case 3 (0x01 ∷ 0x00 ∷ 0x00 ∷ 0x49 ∷ 0x00 ∷ 0x00 ∷ []) (0xD0 ∷ 0x07 ∷ [])
    ∷ record { number = 4; made = (master_of (word_at (0xD2 ∷ 0x0C ∷ []) 0)).0 ∷ unit_of (word_at (0xD2 ∷ 0x0C ∷ []) 0) ∷ []; told = 1 ∷ 1234 ∷ [] }
    ∷ record {
      number = 5;
      made = get_or (reply_of bench_config [] scan) 4 0 ∷ get_or (reply_of bench_config (damage ∷ []) scan) 4 0 ∷ [];
      told = 0x54 ∷ 0x56 ∷ [];
    }
    -- after a WRITE, 20h/31h with 128 characters is done; with 129 it is no frame
    ∷ record {
      number = 6;
      made =
          length (frame 0x20 0x31 (replicate 128 7)) ∷ (outcome_of bench_config (writes ∷ []) (asks 0x20 0x31 (replicate 128 7))
          ++ (length (frame 0x20 0x31 (replicate 129 7)) ∷ outcome_of bench_config (writes ∷ []) (asks 0x20 0x31 (replicate 129 7))));
      told = 136 ∷ 0 ∷ 137 ∷ 1 ∷ [];
    }
    ∷ record {
      number = 7;
      made = outcome_of (wider 1) (asks 0x10 0x11 (1 ∷ []) ∷ elapsed 5000 ∷ []) (asks 0x10 0x20 []);
      told = 0 ∷ 1 ∷ 1 ∷ [];
    }
    ∷ record { number = 8; made = outcome_of (wider 1) (asks 0x10 0x11 (1 ∷ []) ∷ elapsed 5001 ∷ []) (asks 0x10 0x20 []); told = 11 ∷ [] }
    ∷ record {
      number = 9;
      made =
          get_or (after bench_config (local (pulses (record { 0 = 0x40 }) 65535) ∷ [])).inner.areas.words 0x40 0
          ∷ get_or (after bench_config (local (pulses (record { 0 = 0x40 }) 65535) ∷ local (pulses (record { 0 = 0x40 }) 1) ∷ [])).inner.areas.words 0x40 0
          ∷ [];
      told = 65535 ∷ 0 ∷ [];
    }
    -- of 32 held the 13 oldest are sent: 13 with bit 7, then their characters
    ∷ record {
      number = 10;
      made =
          length (held_in (after (wider 16) (records16 0 32)).inner.history.files 0)
          ∷ word_at (reply_of (wider 16) (records16 0 32) (asks 0x04 0x60 [])) 5
          ∷ part (reply_of (wider 16) (records16 0 32) (asks 0x04 0x60 [])) 7 495;
      told = 32 ∷ 495 ∷ 0x8D ∷ gather chars16 (up_from 0 13);
    }
    ∷ record {
      number = 11;
      made =
          outcome_of bench_config [] (set_day 3 0x66) ++ (clock_of (set_day 3 0x66 ∷ []) ++ (outcome_of bench_config [] (set_day 3 0x67)
          ++ clock_of (set_day 3 0x67 ∷ [])));
      told = 0 ∷ 366 ∷ 23 ∷ 59 ∷ 59 ∷ 999 ∷ 8 ∷ 1 ∷ 0 ∷ 0 ∷ 0 ∷ 0 ∷ [];
    }
    ∷ record {
      number = 12;
      made =
          outcome_of (wider 16) (records16 0 31) (record16 31) ++ (outcome_of (wider 16) (records16 0 32) (record16 32)
          ++ (length (held_in (after (wider 16) (records16 0 33)).inner.history.files 0) ∷ []));
      told = 0 ∷ 1 ∷ 32 ∷ [];
    }
    ∷ []

-- ---- pairs (Request 5)

-- 20h/30h for ordinal 0Bh from its start on and 20h/31h of so many characters 7, in one stretch with these addresses
unfoldable pub both : ℕ → ℕ → ℕ → List ℕ
both a b n =
    frame_chars (record { address = a; function = 0x20; command = 0x30; body = 0 ∷ 0 ∷ 0x0B ∷ [] })
    ++ frame_chars (record { address = b; function = 0x20; command = 0x31; body = replicate n 7 })

-- of master 1 to unit 1234, to another unit, and to all; of master 2
unfoldable pub pair : ℕ → Event
pair n = hears (both 0x0CD2 0x0CD2 n)

unfoldable pub elsewhere : Event
elsewhere = hears (both 0x0CD3 0x0CD3 2)

unfoldable pub to_all : Event
to_all = hears (both 0x0FFF 0x0FFF 2)

unfoldable pub writes_other : Event
writes_other = hears (frame_chars (record { address = 0x14D2; function = 0x20; command = 0x30; body = 0 ∷ 0 ∷ 0x0B ∷ [] }))

-- each with the EXECUTE that comes next, which tells if a write still waits
unfoldable pub twice : List Event → Event → List ℕ
twice es e = outcome_of (wider 1) es e ++ outcome_of (wider 1) (es ++ (e ∷ [])) (asks 0x20 0x31 (9 ∷ []))

unfoldable pub pair_table : List Case
pair_table =
    -- taken: the reply is the EXECUTE's, its characters are there, and the write is gone
    record {
      number = 1;
      made = twice [] (pair 2) ++ (part (reply_of (wider 1) [] (pair 2)) 0 7 ++ part (after (wider 1) (pair 2 ∷ [])).inner.areas.fixed 271 4);
      told = 0 ∷ 14 ∷ 0xD2 ∷ 0x0C ∷ 0x20 ∷ 0x80 ∷ 0x54 ∷ 0 ∷ 0 ∷ 0 ∷ 7 ∷ 7 ∷ 0 ∷ [];
    }
    -- without characters of data it is 7, and the write is gone
    ∷ record { number = 2; made = length (both 0x0CD2 0x0CD2 0) ∷ twice [] (pair 0); told = 19 ∷ 7 ∷ 14 ∷ [] }
    -- 12, the select gone and no write; 15, the other's write stays
    ∷ record {
      number = 3;
      made = twice (asks 0x10 0x11 (1 ∷ []) ∷ []) (pair 2) ++ outcome_of (wider 1) (asks 0x10 0x11 (1 ∷ []) ∷ pair 2 ∷ []) (asks 0x10 0x20 []);
      told = 12 ∷ 14 ∷ 14 ∷ [];
    }
    ∷ record { number = 4; made = twice (writes_other ∷ []) (pair 2); told = 15 ∷ 15 ∷ [] }
    -- for another unit; to all, and then bit 2 shows
    ∷ record { number = 5; made = twice [] elsewhere; told = 3 ∷ 14 ∷ [] }
    ∷ record { number = 6; made = twice [] to_all ++ (get_or (reply_of (wider 1) (to_all ∷ []) scan) 3 0 ∷ []); told = 16 ∷ 14 ∷ 0x84 ∷ [] }
    -- the cut at the seam leaves a WRITE that is taken
    ∷ record { number = 7; made = twice [] (hears (take 11 (both 0x0CD2 0x0CD2 2))); told = 5 ∷ 0 ∷ [] }
    -- 137 characters that are a pair; the most and one more
    ∷ record { number = 8; made = length (both 0x0CD2 0x0CD2 118) ∷ twice [] (pair 118); told = 137 ∷ 0 ∷ 14 ∷ [] }
    ∷ record { number = 9; made = length (both 0x0CD2 0x0CD2 128) ∷ twice [] (pair 128); told = 147 ∷ 0 ∷ 14 ∷ [] }
    ∷ record { number = 10; made = length (both 0x0CD2 0x0CD2 129) ∷ twice [] (pair 129); told = 148 ∷ 1 ∷ 14 ∷ [] }
    -- two masters, or a changed check of the EXECUTE: neither is acted on
    ∷ record { number = 11; made = twice [] (hears (both 0x0CD2 0x14D2 2)); told = 1 ∷ 14 ∷ [] }
    ∷ record { number = 12; made = twice [] (hears (set (both 0x0CD2 0x0CD2 2) 20 0)); told = 1 ∷ 14 ∷ [] }
    ∷ []

unfoldable pub numbers : List Case → List ℕ
numbers [] = []
numbers (x ∷ xs) = x.number ∷ numbers xs

unfoldable pub each_made : List Case → List (List ℕ)
each_made [] = []
each_made (x ∷ xs) = x.made ∷ each_made xs

unfoldable pub each_told : List Case → List (List ℕ)
each_told [] = []
each_told (x ∷ xs) = x.told ∷ each_told xs

-- the cases are 1 to 12, and the definitions make of each what it tells, and of each pair
pub record AllCases (xs ys : List Case) : Type 0 where
  pub numbered : numbers xs ≡ 1 ∷ 2 ∷ 3 ∷ 4 ∷ 5 ∷ 6 ∷ 7 ∷ 8 ∷ 9 ∷ 10 ∷ 11 ∷ 12 ∷ []
  pub met : each_made xs ≡ each_told xs
  pub pairs : each_made ys ≡ each_told ys

pub cases : AllCases table pair_table
unfolding
    both pair elsewhere to_all writes_other twice pair_table
    table check_case numbers each_made each_told wider asks scan damage writes record16 records16 chars16 set_day acted outcome_of reply_of clock_of frame bench_config
    put part word value word_at gather up_from bit_step bit_steps char_step check_from
    unit_of master_of whole checked frame_in commands paired heard_of request_in with_check frame_chars head_chars reply_chars
    damaged reply_function has within accumulator every none_in file_valid window_at mean_valid means_valid valid_of has_file has_calculation size_of
    held_in store_in cut_in applied dropped_after added_by changed_by fresh_core fresh_areas fresh_history fresh_port fresh_of counts with_no_data
    unreserved chosen word_of inputs_of has_accumulator pulses_of
    is_of takes select_when operate_when select_of control_of operates breaks held_after
    known ordinal_start block_of reaches waits_for write_when write_of not_executed executes execute_when execute_of dropped waits_after
    bcd from_bcd digits clock_fits time_in digits_fit time_fits set_time_of time_of clock_at clock_after
    acknowledges dumps file_of flat history_chars freed_for most_of told_from tell_of history_of record_chars keeps_oldest spared_in full_as stored_when stored_as
    master_fits hold_fits write_fits core_fits givable reply_fits memory_fits file_fits history_fits samples_at samples_fit areas_fit port_fits fits
    empty_plans planned plans_fit
    controlled timed written executed scanned internal_of other_of status_of sent_as answered quiet settled finished alone telling internal_step step_of
    areas_left areas_anew groups_carried asks_for group_in anew unmarked untallied two_bit served framed broadcast_of broadcast_made followed judged broken_off core_after elapsed_made local_made word_made noted_in store_made local_of make_of
    mark_number port_status sent_chars mark_after silent_after port_heard port_after short turned_away shows moves decided result_of next_of after_from
cases = record { numbered = refl; met = refl; pairs = refl }
