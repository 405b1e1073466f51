-- A worked run, so that demand 3 speaks of something: two masters, two records, a damaged request, a repeat, a release. Assumes nothing.
use Prim.Native.Nat.{ℕ, zero, suc}
use mathlib.Core.Path.{◌≡◌, refl}
use mathlib.Core.Logic.{◌⊎◌}
use mathlib.Core.List.{List, [], ◌∷◌, ◌++◌}
use mathlib.Core.Bool.{Bool, true, ◌&&◌}
use lib.ListN.{get_or, take, drop, set}
use lib.Dec.{ltb, lit<, lit≤}
use borrow.Author.Tests.{ltb-true}
use native.Mathlib.Omega.{arith}
use Rattle.chars.specs.Put.{part}
use Rattle.chars.specs.Word.{Characters, word, word_at}
use Rattle.chars.specs.Gather.{gather, up_from, every}
use Rattle.checkword.specs.Check.{bit_step, bit_steps, char_step, check_from}
use Rattle.checkword.proofs.Bursts.{one_character}
use Rattle.model.specs.Limits.{write_frame}
use Rattle.model.specs.Sound.{WholePair}
use Rattle.model.specs.Frame.{unit_of, master_of, whole, checked, frame_in, commands, paired, heard_of, request_in, with_check, frame_chars, head_chars, reply_chars}
use Rattle.model.specs.Outcome.{damaged, reply_function, answer_number}
use Rattle.model.specs.Config.{Config, has, within, none_in, file_valid, window_at, mean_valid, means_valid, valid_of, has_file, keeps_oldest, size_of}
use Rattle.model.specs.State.{held_in, store_in, cut_in, fresh_core, fresh_areas, fresh_history, fresh_port, fresh_of}
use Rattle.model.specs.Change.{applied, dropped_after, added_by, changed_by}
use Rattle.model.specs.Scan.{counts}
use Rattle.model.specs.Means.{samples_at}
use Rattle.model.specs.Control.{is_of, breaks, held_after}
use Rattle.model.specs.Blocks.{dropped, waits_after}
use Rattle.model.specs.Clock.{bcd, clock_fits, time_of, clock_at, clock_after}
use Rattle.model.specs.History.{acknowledges, dumps, file_of, flat, history_chars, freed_for, most_of, told_from, agrees, again_when, tell_of, history_of, record_chars, spared_in, full_as, stored_when, stored_as}
use Rattle.model.specs.Plans.{empty_plans, planned, plans_fit}
use Rattle.model.specs.Fits.{master_fits, hold_fits, write_fits, core_fits, givable, reply_fits, memory_fits, file_fits, history_fits, samples_fit, areas_fit, port_fits, fits}
use Rattle.model.specs.Event.{store, Event, elapsed, local}
use Rattle.model.specs.Bench.{with_room, hears}
use Rattle.model.specs.Contacts.{asks_for, groups_carried, anew, areas_anew}
use Rattle.model.specs.Step.{scanned, status_of, sent_as, answered, quiet, settled, finished, telling, step_of, areas_left, served, framed, judged, core_after, elapsed_made, noted_in, store_made, local_of, make_of}
use Rattle.model.specs.Port.{mark_number, port_status, sent_chars, mark_after, silent_after, port_heard, port_after}
use Rattle.model.specs.Run.{short, turned_away, shows, moves, decided, result_of, next_of, Entry, entry_of, after_from, trace_from, after, trace}
use Rattle.model.specs.Formed.{AllGiven}
use Rattle.model.specs.Line.{chunks, carried, shown_for, shown_in, shown_by, shown, latest_after, released_by, latest_from, released_from, was_kept, stored_locally, stored_by, stored_in, latest_in, released_in}
use Rattle.model.specs.Damage.{frame, pair, Good, Damaged, cut, changed}
use Rattle.model.specs.Demand3.{held_by, Unseen, Acknowledged, LeavesWrite}
use Rattle.model.specs.declared.Outcome.TheVariants.{NotWhole, CheckWrong}
use Rattle.model.specs.declared.Answer.TheVariants.{Ended}
use Rattle.model.proofs.Conditions.{and_left, and_right}
use Rattle.model.proofs.PairLaws.{heard-whole, heard-pair}
use Rattle.model.proofs.Demand3.{demand_3}

-- ---- the run

-- unit 1234 with file 0, whose records have one value: 8 characters
unfoldable pub unit : Config
unit = record { unit = 1234; inputs = []; outputs = []; calculations = []; files = 1 ∷ []; values = 1 ∷ []; oldest = []; block = 0; means = []; sampled = []; windows = [] }

-- master 1 and master 2 acknowledge and ask for one record of file 0; master 1 asks again without
abbrev pub one : List ℕ
one = 0xD2 ∷ 0x0C ∷ 0x04 ∷ 0x40 ∷ 0x00 ∷ 0x00 ∷ 0x02 ∷ 0x97 ∷ []

abbrev pub two : List ℕ
two = 0xD2 ∷ 0x14 ∷ 0x04 ∷ 0x40 ∷ 0x00 ∷ 0x00 ∷ 0x22 ∷ 0x95 ∷ []

abbrev pub again : List ℕ
again = 0xD2 ∷ 0x0C ∷ 0x04 ∷ 0x00 ∷ 0x00 ∷ 0x00 ∷ 0x03 ∷ 0x43 ∷ []

-- two records two seconds apart, and master 1 asks
abbrev pub before-cut : List Event
before-cut = local (store (record { 0 = 0 }) 7 (0x0C0B ∷ [])) ∷ elapsed 2000 ∷ local (store (record { 0 = 0 }) 7 (0x1615 ∷ [])) ∷ hears one ∷ []

-- master 1 asks again; master 2 asks, and master 1, to neither of whom the latest reply went; master 1 asks once more
abbrev pub after-cut : List Event
after-cut = hears again ∷ hears two ∷ hears one ∷ hears one ∷ []

abbrev pub torn : Event
torn = hears (take 7 one)

abbrev pub events : List Event
events = before-cut ++ (torn ∷ after-cut)

-- the records: event, day 1, 00:00:00 and 00:00:02, the value
abbrev pub first : List ℕ
first = 7 ∷ 0 ∷ 1 ∷ 0 ∷ 0 ∷ 0 ∷ 11 ∷ 12 ∷ []

abbrev pub second : List ℕ
second = 7 ∷ 0 ∷ 1 ∷ 0 ∷ 0 ∷ 2 ∷ 21 ∷ 22 ∷ []

unfoldable pub numbers : List Entry → List ℕ
numbers [] = []
numbers (x ∷ xs) = answer_number x.result.answer ∷ numbers xs

pub record Worked : Type 0 where
  pub valid : valid_of unit ≡ true
  pub answers : numbers (trace unit events) ≡ 0 ∷ 0 ∷ 0 ∷ 0 ∷ 1 ∷ 0 ∷ 0 ∷ 0 ∷ 0 ∷ []
  pub keeps : stored_in (trace unit events) 0 ≡ first ∷ second ∷ []
  pub releases : released_in unit (trace unit events) 0 ≡ first ∷ []
  pub holds : held_by (after unit events) 0 ≡ second ∷ []
  pub last : released_by (latest_in unit (trace unit (take 8 events))) (shown unit (entry_of unit (after unit (take 8 events)) (hears one))) 0
      ≡ first ∷ []
  -- one event less, and nothing is released: the latest reply had gone to master 2 when master 1 acknowledged
  pub waits : released_in unit (trace unit (take 8 events)) 0 ≡ []
  -- after the cut frame the port status reads 56h, and 54h without it; the repeat carries the first record, and more are held
  pub repeats : (result_of unit (after unit (take 5 events)) (hears again)).reply
      ≡ 0xD2 ∷ 0x0C ∷ 0x04 ∷ 0x80 ∷ 0x56 ∷ 9 ∷ 0 ∷ 0x81 ∷ first ++ (0xE7 ∷ 0xFD ∷ [])
  -- an answered frame clears the mark, so the reply after that reads 54h again
  pub cleared : get_or (result_of unit (after unit (take 6 events)) (hears two)).reply 4 0 ≡ 0x54
  pub undamaged : take 5 (result_of unit (after unit (take 4 events)) (hears again)).reply ≡ 0xD2 ∷ 0x0C ∷ 0x04 ∷ 0x80 ∷ 0x54 ∷ []

pub worked : Worked
unfolding
    unit numbers part word word_at gather up_from bit_step bit_steps char_step check_from
    unit_of master_of whole checked frame_in commands paired heard_of request_in with_check frame_chars head_chars reply_chars
    damaged reply_function has within every none_in file_valid window_at mean_valid means_valid valid_of has_file size_of
    held_in store_in cut_in applied dropped_after added_by changed_by fresh_core fresh_areas fresh_history fresh_port fresh_of counts is_of breaks held_after dropped waits_after
    bcd clock_fits time_of clock_at clock_after
    acknowledges dumps file_of flat history_chars freed_for most_of told_from agrees again_when tell_of history_of record_chars keeps_oldest spared_in full_as stored_when stored_as
    master_fits hold_fits write_fits core_fits givable reply_fits memory_fits file_fits history_fits samples_at samples_fit areas_fit port_fits fits
    empty_plans planned plans_fit
    scanned status_of sent_as answered quiet settled finished telling step_of areas_left areas_anew groups_carried asks_for anew served framed judged core_after elapsed_made noted_in store_made local_of make_of
    mark_number port_status sent_chars mark_after silent_after port_heard port_after short turned_away shows moves decided result_of next_of entry_of after_from trace_from
    chunks carried shown_for shown_in shown_by shown latest_after released_by latest_from released_from was_kept stored_locally stored_by stored_in
worked =
    record {
      valid = refl;
      answers = refl;
      keeps = refl;
      releases = refl;
      holds = refl;
      last = refl;
      waits = refl;
      repeats = refl;
      cleared = refl;
      undamaged = refl;
    }

-- ---- the damage is damage: the frame cut by one character, and the frame with one character changed

abbrev small : List ℕ → Bool
small [] = true
small (b ∷ s) = ltb b 256 && small s

by_small : (s : List ℕ) → small s ≡ true → Characters s
by_small [] e i = omega arith
by_small (b ∷ s) e zero = ltb-true b 256 (and_left (ltb b 256) (small s) e)
by_small (b ∷ s) e (suc i) = by_small s (and_right (ltb b 256) (small s) e) i

pub good_one : Good one
unfolding part word word_at bit_step bit_steps char_step check_from whole checked frame_in heard_of
good_one = record { characters = by_small one refl; carries = frame (heard-whole one (frame_in one) refl) }

pub cut-one : Damaged (take 7 one)
unfolding good_one
cut-one = cut {s = one} {n = 7} good_one (lit< tt) (λ e. e)

pub changed-one : Damaged (set one 3 0x60)
changed-one = changed good_one (by_small (set one 3 0x60) refl) (one_character one 3 0x60 (lit< tt) (λ e. omega arith))

-- a pair: master 1 writes two characters into ordinal 03. Cut before its seam or behind it, it is damage; at the seam a WRITE is left

abbrev pub written : List ℕ
written =
    0xD2 ∷ 0x0C ∷ 0x20 ∷ 0x30 ∷ 0x03 ∷ 0x00 ∷ 0x00 ∷ 0x00 ∷ 0x03 ∷ 0xA4 ∷ 0xC3
    ∷ 0xD2 ∷ 0x0C ∷ 0x20 ∷ 0x31 ∷ 0x02 ∷ 0x00 ∷ 0x07 ∷ 0x07 ∷ 0x78 ∷ 0x6B ∷ []

whole_pair : WholePair written (frame_in (take write_frame written)) (frame_in (drop write_frame written))
unfolding part word word_at bit_step bit_steps char_step check_from whole checked frame_in commands paired heard_of
whole_pair = heard-pair written _ _ refl

pub good_pair : Good written
good_pair = record { characters = by_small written refl; carries = pair whole_pair }

pub cut-before : Damaged (take 10 written)
unfolding good_pair
cut-before = cut {s = written} {n = 10} good_pair (lit< tt) (λ e. omega arith)

pub cut-behind : Damaged (take 12 written)
unfolding good_pair
cut-behind = cut {s = written} {n = 12} good_pair (lit< tt) (λ e. omega arith)

pub cut_between : LeavesWrite unit [] (with_room (take write_frame written)) (frame_in (take write_frame written))
cut_between = (demand_3 unit).seam [] (with_room (take write_frame written)) whole_pair refl

-- ---- and the demand speaks of it

given : AllGiven before-cut
given = (tt, (tt, (tt, (by_small one refl, tt))))

pub cut_unseen : Unseen unit before-cut (with_room (take 7 one)) after-cut
cut_unseen = (demand_3 unit).damage before-cut (with_room (take 7 one)) cut-one after-cut

pub cut-ends : ((result_of unit (after unit before-cut) torn).answer ≡ Ended NotWhole) ⊎ ((result_of unit (after unit before-cut) torn).answer ≡ Ended CheckWrong)
cut-ends = cut_unseen.ends.damaged (lit≤ tt) worked.valid given

-- the last event released the first record, so master 1 had acknowledged it, to whom the latest reply had carried it
pub last-acknowledged : Acknowledged unit (latest_in unit (trace unit (take 8 events))) (entry_of unit (after unit (take 8 events)) (hears one)) 0
last-acknowledged =
    ((demand_3 unit).events (take 8 events) (hears one) 0).release
    (λ e. let w = worked.last in let z : ◌≡◌ {A = ℕ} 0 1 = cc in omega arith)
