-- Each part of a unit that fits goes on fitting: one law for each definition that changes a part. Assumes nothing.
use Prim.Native.Nat.{ℕ, ◌+◌, ◌*◌, ◌≤◌, ◌<◌, min}
use mathlib.Core.Path.{◌≡◌, refl}
use mathlib.Core.List.{List, ◌++◌, append-nil}
use mathlib.Core.Bool.{Bool, true, false, cond, ◌&&◌}
use lib.ListN.{length, get_or, length-append}
use lib.Dec.{eqb, leb, ltb}
use native.Mathlib.Omega.{arith}
use borrow.Author.Tests.{eqb-true, leb-true, le-leb, ltb-true, lt-ltb, eq-eqb}
use Rattle.chars.specs.Gather.{up_from, every}
use Rattle.chars.specs.Word.{Characters, word_at}
use Rattle.model.specs.Limits.{hold_time, most_lag, file_room}
use Rattle.model.specs.Frame.{Request, master_of}
use Rattle.model.specs.Config.{Config, has, within, has_file}
use Rattle.model.specs.State.{Files, History, held_in, store_in}
use Rattle.model.specs.Change.{stays, adds, swaps, applied, dropped_after, changed_by}
use Rattle.model.specs.Scan.{counts}
use Rattle.model.specs.Control.{
  Controlled,
  is_of,
  takes,
  select_when,
  operate_when,
  reset_when,
  select_of,
  control_of,
  held_after,
}
use Rattle.model.specs.Blocks.{WriteResult, waits_for, write_when, write_of, waits_after}
use Rattle.model.specs.Clock.{Timed, clock_fits, time_in, time_fits, set_time_of, clock_at, clock_after}
use Rattle.model.specs.History.{file_of, freed_for, most_of, told_from}
use Rattle.model.specs.Fits.{master_fits, hold_fits, write_fits, givable, reply_fits, memory_fits, file_fits, history_fits}
use Rattle.model.specs.declared.Master.{Master}
use Rattle.model.specs.declared.Clock.{Clock}
use Rattle.model.specs.declared.Select.{Select}
use Rattle.model.specs.declared.Hold.{Hold}
use Rattle.model.specs.declared.Hold.TheVariants.{Free, Held, TimedOut}
use Rattle.model.specs.declared.Write.{Write}
use Rattle.std.specs.Prelude.{None, Option, Some}
use Rattle.model.specs.declared.HistoryReply.{HistoryReply}
use Rattle.model.proofs.Conditions.{by_cond, and_left, and_right, and_both, every-up_from, up_from-every}
use Rattle.model.proofs.FileLaws.{held-stored, store_grows, cut_shrinks, told_after, new_told, length_swap}

-- ---- masters and the clock

-- two characters leave five bits for the master
pub heard-fits : (s : List ℕ) → Characters s → master_fits (master_of (word_at s 0)) ≡ true
unfolding master_fits master_of word_at
heard-fits s g = omega (arith, le-leb, g 0, g 1)

clock-fits : (k : Clock) → 1 ≤ k.day → k.day ≤ 366 → k.hour ≤ 23 → k.minute ≤ 59 → k.second ≤ 59 → k.ms ≤ 999 → clock_fits k ≡ true
unfolding clock_fits within
clock-fits k first day hour minute second ms =
    and_both (and_both (le-leb _ _ first) (le-leb _ _ day))
    (and_both (le-leb _ _ hour) (and_both (le-leb _ _ minute) (and_both (le-leb _ _ second) (le-leb _ _ ms))))

clock_at-fits : (t : ℕ) → t < 366 * 86400000 → clock_fits (clock_at t) ≡ true
unfolding clock_at
clock_at-fits t h = clock-fits (clock_at t) (omega arith) (omega arith) (omega arith) (omega arith) (omega arith) (omega arith)

pub clock_after-fits : (k : Clock) (ms : ℕ) → clock_fits (clock_after k ms) ≡ true
unfolding clock_after
clock_after-fits k ms = clock_at-fits _ (omega arith)

pub set_time_fits : (lag : ℕ) (k : Clock) (q : Request) → clock_fits k ≡ true → clock_fits (set_time_of lag k q).clock ≡ true
unfolding set_time_of
set_time_fits lag k q h =
    let P : Timed → Type 0 = λ r. clock_fits r.clock ≡ true in
    by_cond P (counts 7 q)
    (λ e. by_cond P (time_fits q.body && leb lag most_lag) (λ e. clock_after-fits (time_in q.body) lag) (λ e. h))
    (λ e. h)

-- ---- the select

module _ (c : Config) where
  ControlFits : Controlled → Type 0
  ControlFits r = hold_fits c r.hold ≡ true

  held_fits : (s : Select) → master_fits s.master ≡ true → has c.outputs s.output.0 ≡ true → s.age ≤ hold_time → hold_fits c (Held s) ≡ true
  unfolding hold_fits
  held_fits s g e a = and_both g (and_both e (le-leb _ _ a))

  held-master : (s : Select) → hold_fits c (Held s) ≡ true → master_fits s.master ≡ true
  unfolding hold_fits
  held-master s h = and_left (master_fits s.master) _ h

  held-output : (s : Select) → hold_fits c (Held s) ≡ true → has c.outputs s.output.0 ≡ true
  unfolding hold_fits
  held-output s h = and_left (has c.outputs s.output.0) _ (and_right (master_fits s.master) _ h)

  takes-fits : (m : Master) (n : ℕ) (close : Bool) → master_fits m ≡ true → has c.outputs n ≡ true → ControlFits (takes m n close)
  unfolding ControlFits takes
  takes-fits m n close g e = held_fits _ g e (omega arith)

  select_when-fits : (h : Hold) (m : Master) (n : ℕ) (close : Bool) → master_fits m ≡ true → has c.outputs n ≡ true → hold_fits c h ≡ true → ControlFits (select_when h m n close)
  unfolding ControlFits select_when
  select_when-fits Free m n close g e h = takes-fits m n close g e
  select_when-fits (TimedOut p) m n close g e h = takes-fits m n close g e
  select_when-fits (Held s) m n close g e h = h

  operate_when-fits : (h : Hold) (m : Master) → hold_fits c h ≡ true → ControlFits (operate_when h m)
  unfolding ControlFits operate_when hold_fits
  operate_when-fits Free m h = refl
  operate_when-fits (TimedOut p) m h = by_cond {A = Controlled} (λ r. hold_fits c r.hold ≡ true) (is_of p m) (λ e. refl) (λ e. h)
  operate_when-fits (Held s) m h = by_cond {A = Controlled} (λ r. hold_fits c r.hold ≡ true) (is_of s.master m) (λ e. refl) (λ e. h)

  reset_when-fits : (h : Hold) → hold_fits c h ≡ true → ControlFits (reset_when h)
  unfolding ControlFits reset_when
  reset_when-fits Free h = h
  reset_when-fits (TimedOut p) h = h
  reset_when-fits (Held s) h = h

  module _ (h : Hold) (q : Request) (g : master_fits (master_of q.address) ≡ true) (f : hold_fits c h ≡ true) where
    select_fits : (close : Bool) → ControlFits (select_of c.outputs h q close)
    unfolding select_of
    select_fits close =
        by_cond ControlFits (counts 1 q)
        (λ e. by_cond ControlFits (has c.outputs (get_or q.body 0 0)) (λ e. select_when-fits h _ _ close g e f) (λ e. unfold ControlFits in f))
        (λ e. unfold ControlFits in f)

    pub control_fits : hold_fits c (control_of c.outputs h q).hold ≡ true
    unfolding ControlFits control_of
    control_fits =
        by_cond ControlFits (eqb q.command 0x10) (λ e. select_fits false)
        (λ e. by_cond ControlFits (eqb q.command 0x11) (λ e. select_fits true)
        (λ e. by_cond ControlFits (eqb q.command 0x20)
        (λ e. by_cond ControlFits (counts 0 q) (λ e. operate_when-fits h (master_of q.address) f) (λ e. unfold ControlFits in f))
        (λ e. by_cond ControlFits (eqb q.command 0x21)
        (λ e. by_cond ControlFits (counts 0 q) (λ e. reset_when-fits h f) (λ e. unfold ControlFits in f))
        (λ e. unfold ControlFits in f))))

  -- at 5,000 ms a select is held, and after that its master is remembered
  pub held_after-fits : (h : Hold) (ms : ℕ) → hold_fits c h ≡ true → hold_fits c (held_after h ms) ≡ true
  unfolding held_after
  held_after-fits Free ms h = h
  held_after-fits (TimedOut p) ms h = h
  held_after-fits (Held s) ms h =
      by_cond (λ x. hold_fits c x ≡ true) (leb (s.age + ms) hold_time)
      (λ e. held_fits _ (held-master s h) (held-output s h) (omega (arith, leb-true (s.age + ms) hold_time e)))
      (λ e. unfold hold_fits in held-master s h)

-- ---- the write

WriteFits : WriteResult → Type 0
WriteFits r = write_fits r.write ≡ true

waits-fits : (w : Write) → master_fits w.master ≡ true → w.age ≤ hold_time → write_fits (Some w) ≡ true
unfolding write_fits
waits-fits w g a = and_both g (le-leb _ _ a)

waits-master : (w : Write) → write_fits (Some w) ≡ true → master_fits w.master ≡ true
unfolding write_fits
waits-master w h = and_left (master_fits w.master) _ h

waits_for-fits : (m : Master) (bias o : ℕ) → master_fits m ≡ true → WriteFits (waits_for m bias o)
unfolding WriteFits waits_for
waits_for-fits m bias o g = waits-fits _ g (omega arith)

write_when-fits : (w : Option Write) (m : Master) (bias o : ℕ) → master_fits m ≡ true → write_fits w ≡ true → WriteFits (write_when w m bias o)
unfolding write_when
write_when-fits None m bias o g h = waits_for-fits m bias o g
write_when-fits (Some w) m bias o g h =
    by_cond WriteFits (is_of w.master m) (λ e. waits_for-fits m bias o g) (λ e. unfold WriteFits in h)

pub write-fits : (w : Option Write) (q : Request) → master_fits (master_of q.address) ≡ true → write_fits w ≡ true → write_fits (write_of w q).write ≡ true
unfolding WriteFits write_of
write-fits w q g h = by_cond WriteFits (counts 3 q) (λ e. write_when-fits w _ _ _ g h) (λ e. h)

pub waits_after-fits : (w : Option Write) (ms : ℕ) → write_fits w ≡ true → write_fits (waits_after w ms) ≡ true
unfolding waits_after
waits_after-fits None ms h = h
waits_after-fits (Some w) ms h =
    by_cond (λ x. write_fits x ≡ true) (leb (w.age + ms) hold_time)
    (λ e. waits-fits _ (waits-master w h) (omega (arith, leb-true (w.age + ms) hold_time e)))
    (λ e. unfold write_fits in refl)

-- ---- the history

-- each file has no more records than it may
unfoldable pub FilesFit : Config → Files → Type 0
FilesFit c fs = (f : ℕ) → f < 32 → file_fits c fs f ≡ true

module _ (c : Config) where
  pub history-files : (h : History) → history_fits c h ≡ true → FilesFit c h.files
  unfolding history_fits FilesFit
  history-files h e f k = every-up_from (file_fits c h.files) 0 32 (and_left (every (file_fits c h.files) (up_from 0 32)) _ e) f (omega arith) (omega arith)

  pub history-memory : (h : History) → history_fits c h ≡ true → memory_fits c h.files h.memory ≡ true
  unfolding history_fits
  history-memory h e = and_right (every (file_fits c h.files) (up_from 0 32)) _ e

  pub history-fits : (m : Option HistoryReply) (fs : Files) (ns : List ℕ) → FilesFit c fs → memory_fits c fs m ≡ true → history_fits c (record { memory = m; files = fs; dropped = ns }) ≡ true
  unfolding history_fits FilesFit
  history-fits m fs ns e g = and_both (up_from-every (file_fits c fs) 0 32 (λ f low high. let k : f < 32 = omega arith in e f k)) g

  -- files that hold no more than fitting ones fit
  fewer_fit : (fs gs : Files) → ((f : ℕ) → length (held_in gs f) ≤ length (held_in fs f)) → FilesFit c fs → FilesFit c gs
  unfolding FilesFit file_fits
  fewer_fit fs gs less e f k = omega (arith, le-leb, leb-true, e f k, less f)

  freed_fit : (m : Option HistoryReply) (fs : Files) (p : Master) → FilesFit c fs → FilesFit c (applied (freed_for m p) fs)
  unfolding freed_for applied
  freed_fit None fs p e = e
  freed_fit (Some t) fs p e =
      by_cond (λ ch. FilesFit c (applied ch fs)) (is_of t.master p) (λ b. fewer_fit fs _ (λ f. cut_shrinks fs t.file.0 f 0 t.quantity) e) (λ b. e)

  -- ---- a new reply, and one that is remembered while its file grows

  grown_givable : (most held now n : ℕ) (more : Bool) → held ≤ now → givable most held n more ≡ true → givable most now n more ≡ true
  unfolding givable
  grown_givable most held now n true h e = and_both (and_left (eqb n most) _ e) (omega (arith, lt-ltb, ltb-true n held (and_right (eqb n most) _ e)))
  grown_givable most held now n false h e = and_both (and_left (leb n most) _ e) (omega (arith, le-leb, leb-true n held (and_right (leb n most) _ e)))

  grown_fits : (m : Option HistoryReply) (fs gs : Files) → ((f : ℕ) → length (held_in fs f) ≤ length (held_in gs f)) → memory_fits c fs m ≡ true → memory_fits c gs m ≡ true
  unfolding memory_fits reply_fits
  grown_fits None fs gs more e = refl
  grown_fits (Some t) fs gs more e =
      let r = and_right (master_fits t.master) _ e in
      and_both (and_left (master_fits t.master) _ e)
      (and_both (and_left (has_file c.files t.file.0) _ r)
      (grown_givable _ _ _ t.quantity t.more (more t.file.0) (and_right (has_file c.files t.file.0) _ r)))

  -- as many as are held or as a reply can carry
  new_givable : (most held n : ℕ) (more : Bool) → n ≡ min held most → ltb (min held most) held ≡ more → givable most held n more ≡ true
  unfolding givable
  new_givable most held n true e m =
      let h = ltb-true (min held most) held m in
      and_both (eq-eqb n most (omega arith)) (lt-ltb n held (omega arith))
  new_givable most held n false e m = and_both (le-leb n most (omega arith)) (le-leb n held (omega arith))

  reply-fits : (fs : Files) (t : HistoryReply) → master_fits t.master ≡ true → has_file c.files t.file.0 ≡ true
      → t.quantity ≡ min (length (held_in fs t.file.0)) (most_of c.values t.file.0 t.dump)
      → ltb (min (length (held_in fs t.file.0)) (most_of c.values t.file.0 t.dump)) (length (held_in fs t.file.0)) ≡ t.more
      → memory_fits c fs (Some t) ≡ true
  unfolding memory_fits reply_fits
  reply-fits fs t g k n m = and_both g (and_both k (new_givable _ _ t.quantity t.more n m))

  pub told-fits : (h : History) (q : Request) → master_fits (master_of q.address) ≡ true → has_file c.files (file_of q) ≡ true → history_fits c h ≡ true
      → history_fits c (told_after h (new_told c h q)) ≡ true
  unfolding told_from changed_by
  told-fits h q g k e =
      let ch = freed_for h.memory (master_of q.address) in
      let fs = applied ch h.files in
      history-fits (told_from c.values ch fs q).memory fs _ (freed_fit h.memory h.files _ (history-files h e)) (reply-fits fs _ g k (omega arith) refl)

  pub forgotten_fits : (h : History) → history_fits c h ≡ true → history_fits c (changed_by stays None h) ≡ true
  unfolding changed_by applied dropped_after memory_fits
  forgotten_fits h e = history-fits None h.files _ (history-files h e) refl

  -- ---- a record that is kept

  stored_fit : (fs : Files) (f : ℕ) (r : List ℕ) → has_file c.files f ≡ true → length (held_in fs f) < file_room → FilesFit c fs → FilesFit c (store_in fs f r)
  unfolding FilesFit file_fits
  stored_fit fs f r k room e g i =
      rw (held-stored fs f g r)
      (by_cond (λ (x : List (List ℕ)). leb (length (held_in fs g ++ x)) (cond (has_file c.files g) file_room 0) ≡ true) (ltb f (length fs) && eqb f g)
      (λ b.
      let s = eqb-true f g (and_right (ltb f (length fs)) _ b) in
      rw (← s, k, length-append) (omega (arith, le-leb)))
      (λ b. rw append-nil (e g i)))

  pub kept-fits : (h : History) (f : ℕ) (r : List ℕ) → has_file c.files f ≡ true → length (held_in h.files f) < file_room → history_fits c h ≡ true
      → history_fits c (changed_by (adds f r) h.memory h) ≡ true
  unfolding changed_by applied dropped_after
  kept-fits h f r k room e =
      history-fits h.memory (store_in h.files f r) _ (stored_fit h.files f r k room (history-files h e))
      (grown_fits h.memory h.files _ (λ g. store_grows h.files f g r) (history-memory h e))

  -- a file that drops a record for it holds as many as before
  pub swapped_fits : (h : History) (f at : ℕ) (r : List ℕ) → at < length (held_in h.files f) → history_fits c h ≡ true
      → history_fits c (changed_by (swaps f at r) h.memory h) ≡ true
  unfolding changed_by
  swapped_fits h f at r k e =
      let n : (g : ℕ) → length (held_in (applied (swaps f at r) h.files) g) ≡ length (held_in h.files g) = λ g. length_swap h.files f g at r k in
      history-fits h.memory (applied (swaps f at r) h.files) _ (fewer_fit h.files _ (λ g. omega (arith, n g)) (history-files h e))
      (grown_fits h.memory h.files _ (λ g. omega (arith, n g)) (history-memory h e))
