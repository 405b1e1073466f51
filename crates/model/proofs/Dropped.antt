-- A worked run of a file that keeps the newest: the record that was sent stays, the next is dropped, and the first is released after it.
-- Assumes nothing.
use Prim.Native.Nat.{ℕ, zero, suc}
use mathlib.Core.Path.{◌≡◌, refl, ap}
use mathlib.Core.List.{List, [], ◌∷◌, ◌++◌}
use native.Mathlib.Omega.{arith}
use lib.ListN.{get_or}
use Rattle.chars.specs.Put.{part}
use Rattle.chars.specs.Word.{word, word_at}
use Rattle.chars.specs.Gather.{gather, up_from, every}
use Rattle.checkword.specs.Check.{bit_step, bit_steps, char_step, check_from}
use Rattle.model.specs.Frame.{unit_of, master_of, whole, checked, frame_in, heard_of, request_in, with_check, head_chars, reply_chars}
use Rattle.model.specs.Outcome.{damaged, reply_function}
use Rattle.model.specs.Config.{has, within, none_in, file_valid, window_at, mean_valid, means_valid, valid_of, has_file, keeps_oldest, size_of}
use Rattle.model.specs.State.{held_in, store_in, cut_in, fresh_core, fresh_areas, fresh_history, fresh_port, fresh_of}
use Rattle.model.specs.Change.{applied, dropped_after, added_by, changed_by}
use Rattle.model.specs.Scan.{counts}
use Rattle.model.specs.Means.{samples_at}
use Rattle.model.specs.Control.{is_of, breaks}
use Rattle.model.specs.Blocks.{dropped}
use Rattle.model.specs.Clock.{bcd, clock_fits}
use Rattle.model.specs.History.{
  acknowledges,
  dumps,
  file_of,
  flat,
  history_chars,
  freed_for,
  most_of,
  told_from,
  tell_of,
  history_of,
  record_chars,
  spared_in,
  full_as,
  stored_when,
  stored_as,
}
use Rattle.model.specs.Plans.{empty_plans, planned, plans_fit}
use Rattle.model.specs.Fits.{
  master_fits,
  hold_fits,
  write_fits,
  core_fits,
  givable,
  reply_fits,
  memory_fits,
  file_fits,
  history_fits,
  samples_fit,
  areas_fit,
  port_fits,
  fits,
}
use Rattle.model.specs.Event.{store, Event, local}
use Rattle.model.specs.Bench.{hears}
use Rattle.model.specs.Contacts.{asks_for, groups_carried, anew, areas_anew}
use Rattle.model.specs.Step.{
  scanned,
  status_of,
  sent_as,
  answered,
  settled,
  finished,
  telling,
  step_of,
  areas_left,
  served,
  framed,
  judged,
  noted_in,
  store_made,
  local_of,
  make_of,
}
use Rattle.model.specs.Port.{mark_number, port_status, sent_chars, mark_after, port_heard, port_after}
use Rattle.model.specs.Run.{short, turned_away, shows, moves, decided, result_of, next_of, entry_of, after_from, trace_from, after, trace}
use Rattle.model.specs.Line.{
  chunks,
  carried,
  shown_for,
  shown_in,
  shown_by,
  shown,
  latest_after,
  released_by,
  latest_from,
  released_from,
  was_kept,
  stored_locally,
  stored_by,
  stored_in,
  released_in,
  lots_standing,
  lots_dropped,
  struck_at,
  was_swapped,
  drops_locally,
  drops_by,
  spared_by,
  ledger_after,
  ledger_from,
  ledger_in,
}
use Rattle.model.specs.Demand3.{held_by, dropped_by}
use Rattle.model.proofs.Worked.{unit, one}

-- ---- the run, on the unit of the worked run, whose file 0 is not marked

-- records of event types from a number on, with the value 0C0Bh, on day 1 at 00:00:00
unfoldable pub stores : ℕ → ℕ → List Event
stores from zero = []
stores from (suc n) = local (store (record { 0 = 0 }) from (0x0C0B ∷ [])) ∷ stores (suc from) n

unfoldable pub kept : ℕ → ℕ → List (List ℕ)
kept from zero = []
kept from (suc n) = (from ∷ 0 ∷ 1 ∷ 0 ∷ 0 ∷ 0 ∷ 11 ∷ 12 ∷ []) ∷ kept (suc from) n

-- 32 records fill the file, master 1 is sent record 0, one record more comes, and master 1 acknowledges
abbrev pub events : List Event
events = stores 0 32 ++ (hears one ∷ (stores 32 1 ++ (hears one ∷ [])))

-- record 1 left first, record 0 after it, and the others are held: not in the order in which they were stored
abbrev pub left_and_held : List (List ℕ)
left_and_held = kept 1 1 ++ (kept 0 1 ++ kept 2 31)

pub record Drops : Type 0 where
  pub stored : stored_in (trace unit events) 0 ≡ kept 0 33
  pub dropped : lots_dropped (ledger_in unit (trace unit events) 0) ≡ kept 1 1
  pub left : lots_standing (ledger_in unit (trace unit events) 0) ≡ kept 0 1 ++ kept 2 31
  pub released : released_in unit (trace unit events) 0 ≡ kept 0 1
  pub holds : held_by (after unit events) 0 ≡ kept 2 31
  pub counted : dropped_by (after unit events) 0 ≡ 1
  -- the last request finds bit 3 set, and bit 7 of a fresh unit
  pub status : get_or (result_of unit (after unit (stores 0 32 ++ (hears one ∷ stores 32 1))) (hears one)).reply 3 0 ≡ 0x88
  pub unordered : stored_in (trace unit events) 0 ≡ left_and_held → ⊥

pub drops : Drops
unfolding
    unit stores kept part word word_at gather up_from bit_step bit_steps char_step check_from
    unit_of master_of whole checked frame_in heard_of request_in with_check head_chars reply_chars
    damaged reply_function has within every none_in file_valid window_at mean_valid means_valid valid_of has_file size_of
    held_in store_in cut_in applied dropped_after added_by changed_by fresh_core fresh_areas fresh_history fresh_port fresh_of counts is_of breaks dropped
    bcd clock_fits
    acknowledges dumps file_of flat history_chars freed_for most_of told_from tell_of history_of record_chars keeps_oldest spared_in full_as stored_when stored_as
    master_fits hold_fits write_fits core_fits givable reply_fits memory_fits file_fits history_fits samples_at samples_fit areas_fit port_fits fits
    empty_plans planned plans_fit
    scanned status_of sent_as answered settled finished telling step_of areas_left areas_anew groups_carried asks_for anew served framed judged noted_in store_made local_of make_of
    mark_number port_status sent_chars mark_after port_heard port_after short turned_away shows moves decided result_of next_of entry_of after_from trace_from
    chunks carried shown_for shown_in shown_by shown latest_after released_by latest_from released_from was_kept stored_locally stored_by stored_in
    lots_standing lots_dropped struck_at was_swapped drops_locally drops_by spared_by ledger_after ledger_from
drops =
    record {
      stored = refl;
      dropped = refl;
      left = refl;
      released = refl;
      holds = refl;
      counted = refl;
      status = refl;
      unordered = λ e. let z : ◌≡◌ {A = ℕ} 0 1 = ap (λ (rs : List (List ℕ)). get_or (get_or rs 0 []) 0 0) e in omega arith;
    }
