-- Worked runs of contacts: what replies tell of them, and what clears it. Assumes nothing.
use mathlib.Core.Path.{◌≡◌, refl}
use Prim.Native.Nat.{ℕ}
use mathlib.Core.List.{List, [], ◌∷◌, ◌++◌}
use lib.ListN.{set, replicate}
use Rattle.chars.specs.Put.{put, part}
use Rattle.chars.specs.Word.{word, value, word_at}
use Rattle.chars.specs.Gather.{gather, up_from, every}
use Rattle.checkword.specs.Check.{bit_step, bit_steps, char_step, check_from}
use Rattle.model.specs.Frame.{unit_of, master_of, whole, checked, frame_in, commands, paired, heard_of, request_in, with_check, frame_chars, head_chars, reply_chars}
use Rattle.model.specs.Outcome.{damaged, reply_function, answer_number}
use Rattle.model.specs.Config.{Config, has, within, two_bit, accumulator, none_in, file_valid, window_at, mean_valid, means_valid, valid_of, has_file, keeps_oldest, has_calculation, size_of}
use Rattle.model.specs.State.{held_in, store_in, cut_in, fresh_core, fresh_areas, fresh_history, fresh_port, fresh_of}
use Rattle.model.specs.Change.{applied, dropped_after, added_by, changed_by}
use Rattle.model.specs.Scan.{counts, with_no_data}
use Rattle.model.specs.Inputs.{unreserved, chosen, word_of, inputs_of, has_accumulator, pulses_of, settable, set_word_of}
use Rattle.model.specs.Contacts.{asks_for, group_in, groups_carried, anew, unmarked, untallied, areas_anew, bit_in, with_bit, word_after, changed_after, contact_of}
use Rattle.model.specs.Means.{samples_at}
use Rattle.model.specs.Control.{is_of, takes, select_when, operate_when, select_of, control_of, operates, breaks, held_after}
use Rattle.model.specs.Blocks.{known, ordinal_start, block_of, reaches, waits_for, write_when, write_of, not_executed, executes, execute_when, execute_of, dropped, waits_after}
use Rattle.model.specs.Clock.{bcd, from_bcd, digits, clock_fits, time_in, digits_fit, time_fits, set_time_of, time_of, clock_at, clock_after}
use Rattle.model.specs.History.{acknowledges, dumps, file_of, flat, history_chars, freed_for, most_of, told_from, tell_of, history_of, record_chars, spared_in, full_as, stored_when, stored_as}
use Rattle.model.specs.Fits.{master_fits, hold_fits, write_fits, core_fits, givable, reply_fits, memory_fits, file_fits, history_fits, samples_fit, areas_fit, port_fits, fits}
use Rattle.model.specs.Event.{Event, local, set_word, contact}
use Rattle.model.specs.Step.{controlled, timed, written, executed, scanned, internal_of, other_of, status_of, sent_as, answered, quiet, settled, finished, alone, telling, internal_step, step_of, areas_left, served, framed, broadcast_of, broadcast_made, followed, broken_off, judged, core_after, elapsed_made, local_made, word_made, noted_in, store_made, local_of, make_of, contact_made}
use Rattle.model.specs.Port.{mark_number, port_status, sent_chars, mark_after, silent_after, port_heard, port_after}
use Rattle.model.specs.Run.{short, turned_away, shows, moves, decided, result_of, next_of, after_from, after}
use Rattle.model.specs.Bench.{bench_config, hears}
use Rattle.model.specs.Tables.{stands_at, table_at, end_of, start_of, table_of, sendable, word_in, send_of, scan_numbers, table_scan, table_area, table_asked}
use Rattle.model.specs.Plans.{outcome_for, part_of, parts_of, plans_of, empty_plans, planned, plans_fit, planned_part, planned_numbers, planned_scan, planned_of}

-- the bench unit with the groups 0 and 2, and the simple status 30h
unfoldable pub panel : Config
panel =
    record {
      unit = bench_config.unit;
      inputs = set (set (set (replicate 256 0) 0 1) 2 1) 0x30 1;
      outputs = replicate 256 0;
      calculations = replicate 256 0;
      files = replicate 32 0;
      values = replicate 32 0;
      oldest = replicate 32 0;
      block = 0;
      means = replicate 16 0;
      sampled = replicate 16 0;
      windows = replicate 16 0;
    }

unfoldable pub asks : ℕ → ℕ → List ℕ → Event
asks f c ys = hears (frame_chars (record { address = 0x0CD2; function = f; command = c; body = ys }))

-- contact 3 of group 0 closes, or opens
unfoldable pub closes : Event
closes = local (contact (record { 0 = 3 }) 1)

unfoldable pub opens : Event
opens = local (contact (record { 0 = 3 }) 0)

-- the two-bit kind, and the other kind that the unit has
unfoldable pub polls : Event
polls = asks 0x00 0x04 []

unfoldable pub polls_other : Event
polls_other = asks 0x00 0x01 []

-- the first n characters of data in the reply after these events
unfoldable pub said : List Event → Event → ℕ → List ℕ
said es e n = part (result_of panel (after panel es) e).reply 7 n

unfoldable pub ends : List Event → Event → ℕ
ends es e = answer_number (result_of panel (after panel es) e).answer

-- table 1 has group 0 twice
unfoldable pub tabled : List Event
tabled = asks 0x20 0x30 (0 ∷ 0 ∷ 3 ∷ []) ∷ asks 0x20 0x31 (0 ∷ 2 ∷ 0 ∷ 0 ∷ []) ∷ []

pub record Worked : Type 0 where
  -- one change is no mark; two are, and a reply clears it (Request 8.1 to 8.4)
  pub once : said (closes ∷ []) polls 4 ≡ 8 ∷ 0 ∷ 0 ∷ 0 ∷ []
  pub twice : said (closes ∷ opens ∷ []) polls 4 ≡ 0 ∷ 8 ∷ 0 ∷ 0 ∷ []
  pub cleared : said (closes ∷ opens ∷ polls ∷ []) polls 4 ≡ 0 ∷ 0 ∷ 0 ∷ 0 ∷ []
  -- the tally starts anew where nothing was marked too; a state reported twice is no change (Request 8.4, 8.5)
  pub anew : said (closes ∷ polls ∷ opens ∷ []) polls 4 ≡ 0 ∷ 0 ∷ 0 ∷ 0 ∷ []
  pub same : said (closes ∷ closes ∷ []) polls 4 ≡ 8 ∷ 0 ∷ 0 ∷ 0 ∷ []
  -- a refused scan and one of other kinds clear nothing (Request 8.3)
  pub refused : said (closes ∷ opens ∷ asks 0x00 0x04 (0 ∷ []) ∷ []) polls 4 ≡ 0 ∷ 8 ∷ 0 ∷ 0 ∷ []
  pub otherwise : said (closes ∷ opens ∷ polls_other ∷ []) polls 4 ≡ 0 ∷ 8 ∷ 0 ∷ 0 ∷ []
  -- a table with a group twice tells the same word twice, and clears it (Request 8.3)
  pub table : said (tabled ++ (closes ∷ opens ∷ [])) (asks 0x0A 0x41 []) 4 ≡ 0 ∷ 8 ∷ 0 ∷ 8 ∷ []
  pub table_cleared : said (tabled ++ (closes ∷ opens ∷ asks 0x0A 0x41 [] ∷ [])) polls 4 ≡ 0 ∷ 0 ∷ 0 ∷ 0 ∷ []
  -- a group not equipped, a state that is none, a word set ready made (Request 8.6)
  pub missing : ends [] (local (contact (record { 0 = 8 }) 1)) ≡ 8
  pub stateless : ends [] (local (contact (record { 0 = 3 }) 2)) ≡ 8
  pub ready_made : ends [] (local (set_word (record { 0 = 0 }) 1)) ≡ 8

pub worked : Worked
unfolding
    bench_config put part word value word_at gather up_from bit_step bit_steps char_step check_from unit_of master_of whole checked frame_in commands paired heard_of request_in with_check frame_chars head_chars reply_chars damaged reply_function has within accumulator every none_in file_valid window_at mean_valid means_valid valid_of has_file has_calculation size_of held_in store_in cut_in applied dropped_after added_by changed_by fresh_core fresh_areas fresh_history fresh_port fresh_of counts with_no_data unreserved chosen word_of inputs_of has_accumulator pulses_of is_of takes select_when operate_when select_of control_of operates breaks held_after known ordinal_start block_of reaches waits_for write_when write_of not_executed executes execute_when execute_of dropped waits_after bcd from_bcd digits clock_fits time_in digits_fit time_fits set_time_of time_of clock_at clock_after acknowledges dumps file_of flat history_chars freed_for most_of told_from tell_of history_of record_chars keeps_oldest spared_in full_as stored_when stored_as master_fits hold_fits write_fits core_fits givable reply_fits memory_fits file_fits history_fits samples_at samples_fit areas_fit port_fits fits controlled timed written executed scanned internal_of other_of status_of sent_as answered quiet settled finished alone telling internal_step step_of areas_left areas_anew groups_carried asks_for group_in anew unmarked untallied two_bit served framed broadcast_of broadcast_made followed judged broken_off core_after elapsed_made local_made word_made noted_in store_made local_of make_of mark_number port_status sent_chars mark_after silent_after port_heard port_after short turned_away shows moves decided result_of next_of after_from panel asks closes opens polls polls_other said ends tabled settable set_word_of bit_in with_bit word_after changed_after contact_of contact_made stands_at table_at end_of start_of table_of sendable word_in send_of scan_numbers table_scan table_area table_asked
    empty_plans planned plans_fit plans_of outcome_for parts_of part_of planned_part planned_numbers planned_scan planned_of
worked =
    record {
      once = refl;
      twice = refl;
      cleared = refl;
      anew = refl;
      same = refl;
      refused = refl;
      otherwise = refl;
      table = refl;
      table_cleared = refl;
      missing = refl;
      stateless = refl;
      ready_made = refl;
    }
