-- What every function says fits a reply, and is answered. Assumes nothing.
use mathlib.Core.Path.{◌≡◌, refl, sym, ◌∙◌}
use Prim.Native.Nat.{ℕ, ◌≤◌, ◌*◌, ◌<◌, min}
use native.Mathlib.Omega.{arith}
use mathlib.Core.List.{List, []}
use mathlib.Core.Bool.{true, Bool, false, ◌&&◌, beq}
use lib.ListN.{length, get_or}
use lib.Dec.{eqb, leb, ltb}
use borrow.Author.Tests.{eqb-true, ltb-true}
use Rattle.chars.specs.Word.{word_at}
use Rattle.chars.proofs.PutLaws.{part-most}
use Rattle.model.specs.Limits.{most_data, most_asked, most_lag}
use Rattle.model.specs.Frame.{Request, master_of}
use Rattle.model.specs.Outcome.{sending_of}
use Rattle.model.specs.Scan.{Scan, refuses, counts, with_no_data}
use Rattle.model.specs.Inputs.{Changed, has_accumulator, reset_count_of, unreserved, inputs_of}
use Rattle.model.specs.Blocks.{WriteResult, Executed, reaches, block_of, waits_for, write_when, write_of, not_executed, executes, execute_when, execute_of, returned, read_of}
use Rattle.model.specs.Clock.{Timed, time_fits, set_time_of, time_chars, read_time_of}
use Rattle.model.specs.Step.{answered}
use Rattle.model.specs.declared.Clock.{Clock}
use Rattle.model.specs.declared.Outcome.{Outcome}
use Rattle.model.proofs.Conditions.{by_cond, false-true, and_left, and_right}
use Rattle.serve.specs.Promises.{Tame}
use native.Mathlib.Nat.{mul-le-mul_right, div-mul-le_self}
use Rattle.chars.specs.Gather.{gather, up_from}
use Rattle.model.specs.Config.{Config, has, within, valid_of, has_file, size_of}
use Rattle.model.specs.State.{Files, History, held_in}
use Rattle.model.specs.Change.{Change, stays}
use Rattle.model.specs.Tables.{table_asked}
use Rattle.model.specs.Plans.{planned_scan, planned_of}
use Rattle.model.specs.Calculations.{fitting, value_of, all_of, pair_of, missing_of, asked_of, calculations_of}
use Rattle.model.specs.Control.{Controlled, is_of, takes, select_when, operate_when, reset_when, select_of, control_of}
use Rattle.model.specs.History.{Told, file_of, dumps, acknowledges, untold, history_chars, most_of, told_from, agrees, again_when, tell_of, history_of, freed_for}
use Rattle.model.specs.declared.Hold.{Hold}
use Rattle.model.specs.declared.Hold.TheVariants.{Free, Held, TimedOut}
use Rattle.model.specs.declared.Master.{Master}
use Rattle.std.specs.Prelude.{None, Option, Some}
use Rattle.model.specs.declared.Write.{Write}
use Rattle.model.specs.declared.HistoryReply.{HistoryReply}
use Rattle.inputs.proofs.Fits.{inputs_fit}
use Rattle.tables.proofs.Fits.{planned_fit}
use Rattle.calculations.proofs.Fits.{calculations_fit}
use Rattle.layout.specs.Records.{Layout, packed, records_in, files_laid}
use Rattle.layout.proofs.RecordsLaws.{files-valid, size_valid}
use Rattle.history.specs.Change.{area_after, counts_after}
use Rattle.history.specs.Tell.{cut, left_in, told_in}
use Rattle.layout.specs.Numbers.{memory_in}
use Rattle.layout.specs.Unit.{unit_in, config_in}
use Rattle.history.proofs.HeldLaws.{take-held, flat-most}
use Rattle.history.proofs.LayoutLaws.{held-files}

pub tame : {o : Outcome} {ys : List ℕ} → answered (sending_of o) ≡ true → length ys ≤ most_data → Tame o ys
tame h s = record { quiet = λ e. false-true (sym e ∙ h); short = s }

pub mute : {o : Outcome} → Tame o []
mute = record { quiet = λ e. refl; short = omega arith }

pub bare_tame : {o : Outcome} {ys : List ℕ} → ys ≡ [] → Tame o ys
bare_tame e = record { quiet = λ _. e; short = rw e (omega arith) }

-- ---- 28h

TameScan : Scan → Type 0
TameScan x = Tame x.outcome x.chars

returned-tame : (o : Outcome) (q : Request) → answered (sending_of o) ≡ true → TameScan (returned o q)
unfolding TameScan returned
returned-tame o q h = tame h (omega (arith, part-most q.body 0 128))

pub read-tame : (fixed block : List ℕ) (q : Request) → get_or q.body 3 0 ≤ 255 → Tame (read_of fixed block q).outcome (read_of fixed block q).chars
unfolding TameScan read_of answered
read-tame fixed block q l =
    by_cond TameScan (counts 4 q)
    (λ e. by_cond TameScan (reaches fixed block (get_or q.body 2 0) (word_at q.body 0) (get_or q.body 3 0))
    (λ e. tame refl (omega (arith, part-most (block_of fixed block (get_or q.body 2 0)) (word_at q.body 0) (get_or q.body 3 0))))
    (λ e. returned-tame _ q refl))
    (λ e. returned-tame _ q refl)

pub time-tame : (k : Clock) (q : Request) → Tame (read_time_of k q).outcome (read_time_of k q).chars
unfolding TameScan read_time_of with_no_data time_chars answered
time-tame k q = by_cond TameScan (counts 0 q) (λ e. tame refl (omega arith)) (λ e. mute)

-- ---- 20h/11h

TameChange : Changed → Type 0
TameChange x = Tame x.says.outcome x.says.chars

pub reset-tame : (table words : List ℕ) (q : Request) → Tame (reset_count_of table words q).says.outcome (reset_count_of table words q).says.chars
unfolding TameChange reset_count_of counts answered
reset-tame table words q =
    by_cond TameChange (eqb (length q.body) 1)
    (λ e. by_cond TameChange (has_accumulator table (get_or q.body 0 0)) (λ z. tame refl (omega (arith, eqb-true (length q.body) 1 e))) (λ z. mute))
    (λ e. mute)

-- ---- 20h/30h, 20h/31h and 20h/38h, which send no data

BareWrite : WriteResult → Type 0
BareWrite x = x.says.chars ≡ []

write_when_bare : (p : Option Write) (m : Master) (bias o : ℕ) → BareWrite (write_when p m bias o)
unfolding BareWrite write_when waits_for
write_when_bare None m bias o = refl
write_when_bare (Some w) m bias o = by_cond BareWrite (is_of w.master m) (λ e. refl) (λ e. refl)

pub write_bare : (p : Option Write) (q : Request) → (write_of p q).says.chars ≡ []
unfolding BareWrite write_of
write_bare p q = by_cond BareWrite (counts 3 q) (λ e. write_when_bare p _ _ _) (λ e. refl)

BareExecute : Executed → Type 0
BareExecute x = x.says.chars ≡ []

execute_when_bare : (p : Option Write) (fixed block : List ℕ) (q : Request) → BareExecute (execute_when p fixed block q)
unfolding BareExecute execute_when executes not_executed
execute_when_bare None fixed block q = refl
execute_when_bare (Some w) fixed block q =
    by_cond BareExecute (is_of w.master (master_of q.address))
    (λ e. by_cond BareExecute (reaches fixed block w.ordinal.0 w.bias (length q.body)) (λ e. refl) (λ e. refl))
    (λ e. refl)

pub execute_bare : (p : Option Write) (fixed block : List ℕ) (q : Request) → (execute_of p fixed block q).says.chars ≡ []
unfolding BareExecute execute_of not_executed
execute_bare p fixed block q = by_cond BareExecute (within 1 most_asked (length q.body)) (λ e. execute_when_bare p fixed block q) (λ e. refl)

BareTime : Timed → Type 0
BareTime x = x.says.chars ≡ []

pub set-time_bare : (lag : ℕ) (k : Clock) (q : Request) → (set_time_of lag k q).says.chars ≡ []
unfolding BareTime set_time_of
set-time_bare lag k q =
    by_cond BareTime (counts 7 q) (λ e. by_cond BareTime (time_fits q.body && leb lag most_lag) (λ e. refl) (λ e. refl)) (λ e. refl)

-- ---- functions 00, 03 and 0Ah

Says : Scan → Type 0
Says x = answered (sending_of x.outcome) ≡ true

no_data_says : (q : Request) (r : Scan) → Says r → Says (with_no_data q r)
unfolding Says with_no_data answered
no_data_says q r h = by_cond Says (counts 0 q) (λ e. h) (λ e. refl)

fitting-says : (ys : List ℕ) → Says (fitting ys)
unfolding Says fitting answered
fitting-says ys = by_cond Says (leb (length ys) most_data) (λ e. refl) (λ e. refl)

asked-says : (table values ns : List ℕ) → Says (asked_of table values ns)
unfolding Says asked_of answered
asked-says table values ns = by_cond Says (eqb (length (gather (missing_of table) ns)) 0) (λ e. fitting-says (gather (pair_of values) ns)) (λ e. refl)

calculations-says : (table values : List ℕ) (q : Request) → Says (calculations_of table values q)
unfolding Says calculations_of all_of answered
calculations-says table values q =
    by_cond Says (eqb q.command 0x80) (λ e. no_data_says q _ (fitting-says (gather (value_of table values) (up_from 0 128))))
    (λ e. by_cond Says (eqb q.command 0x00)
    (λ e. by_cond Says (within 1 most_asked (length q.body)) (λ e. asked-says table values q.body) (λ e. refl))
    (λ e. refl))

inputs-says : (table words : List ℕ) (q : Request) → Says (inputs_of table words q)
unfolding Says inputs_of answered
inputs-says table words q = by_cond Says (unreserved q.command) (λ e. no_data_says q _ refl) (λ e. refl)

scan_says : (plans area words : List ℕ) (k : ℕ) → Says (planned_scan plans area words k)
unfolding Says planned_scan answered
scan_says plans area words k =
    by_cond Says (eqb (get_or plans k 0) 0) (λ e. refl)
    (λ e. by_cond (λ (o : Outcome). Says (refuses o)) (eqb (get_or plans k 0) 9) (λ e. refl) (λ e. refl))

tables_says : (plans fixed words : List ℕ) (q : Request) → Says (planned_of plans fixed words q)
unfolding Says planned_of table_asked answered
tables_says plans fixed words q = by_cond Says (within 0x41 0x4F q.command) (λ e. no_data_says q _ (scan_says _ _ _ _)) (λ e. refl)

pub inputs-tame : (table words : List ℕ) (q : Request) → Tame (inputs_of table words q).outcome (inputs_of table words q).chars
unfolding Says
inputs-tame table words q = tame (inputs-says table words q) (inputs_fit table words q)

pub calculations-tame : (table values : List ℕ) (q : Request) → Tame (calculations_of table values q).outcome (calculations_of table values q).chars
unfolding Says
calculations-tame table values q = tame (calculations-says table values q) (calculations_fit table values q)

pub tables_tame : (plans fixed words : List ℕ) (q : Request) → Tame (planned_of plans fixed words q).outcome (planned_of plans fixed words q).chars
unfolding Says
tables_tame plans fixed words q = tame (tables_says plans fixed words q) (planned_fit plans fixed words q)

-- ---- 10h

TameControl : Controlled → Type 0
TameControl x = Tame x.says.outcome x.says.chars

takes-tame : (m : Master) (n : ℕ) (close : Bool) → TameControl (takes m n close)
unfolding TameControl takes answered
takes-tame m n close = tame refl (omega arith)

when_tame : (h : Hold) (m : Master) (n : ℕ) (close : Bool) → TameControl (select_when h m n close)
unfolding select_when TameControl
when_tame Free m n close = takes-tame m n close
when_tame (TimedOut p) m n close = takes-tame m n close
when_tame (Held s) m n close = mute

operate_tame : (h : Hold) (m : Master) → TameControl (operate_when h m)
unfolding operate_when TameControl
operate_tame Free m = mute
operate_tame (TimedOut p) m = by_cond TameControl (is_of p m) (λ e. mute) (λ e. mute)
operate_tame (Held s) m = by_cond TameControl (is_of s.master m) (λ e. mute) (λ e. mute)

reset_when_tame : (h : Hold) → TameControl (reset_when h)
unfolding reset_when TameControl
reset_when_tame Free = mute
reset_when_tame (TimedOut p) = mute
reset_when_tame (Held s) = mute

select_tame : (table : List ℕ) (h : Hold) (q : Request) (close : Bool) → TameControl (select_of table h q close)
unfolding select_of TameControl
select_tame table h q close =
    by_cond TameControl (counts 1 q) (λ e. by_cond TameControl (has table (get_or q.body 0 0)) (λ e. when_tame h _ _ close) (λ e. mute)) (λ e. mute)

pub control_tame : (table : List ℕ) (h : Hold) (q : Request) → Tame (control_of table h q).says.outcome (control_of table h q).says.chars
unfolding control_of TameControl
control_tame table h q =
    by_cond TameControl (eqb q.command 0x10) (λ e. select_tame table h q false)
    (λ e. by_cond TameControl (eqb q.command 0x11) (λ e. select_tame table h q true)
    (λ e. by_cond TameControl (eqb q.command 0x20) (λ e. by_cond TameControl (counts 0 q) (λ e. operate_tame h (master_of q.address)) (λ e. mute))
    (λ e. by_cond TameControl (eqb q.command 0x21) (λ e. by_cond TameControl (counts 0 q) (λ e. reset_when_tame h) (λ e. mute)) (λ e. mute))))

-- ---- 04

TellsAll : Told → Type 0
TellsAll t = answered (sending_of t.says.outcome) ≡ true

again-says : (w : Option HistoryReply) (fs : Files) (q : Request) → TellsAll (again_when w fs q)
unfolding TellsAll again_when untold answered
again-says None fs q = refl
again-says (Some t) fs q = by_cond TellsAll (agrees t q) (λ e. refl) (λ e. refl)

pub history-says : (files values : List ℕ) (h : History) (q : Request) → answered (sending_of (history_of files values h q).says.outcome) ≡ true
unfolding TellsAll history_of tell_of told_from untold answered
history-says files values h q =
    by_cond TellsAll (ltb q.command 128)
    (λ e. by_cond TellsAll (counts 0 q)
    (λ e. by_cond TellsAll (has_file files (file_of q)) (λ e. by_cond TellsAll (acknowledges q) (λ e. refl) (λ e. again-says h.memory _ q)) (λ e. refl))
    (λ e. refl))
    (λ e. refl)

-- an equipped file has records of at most 38 characters
size_fits : (c : Config) (f : ℕ) → valid_of c ≡ true → has_file c.files f ≡ true → size_of c.values f ≤ 38
size_fits c f v e = size_valid c f (files-valid c v) e

most_size_lem : (values : List ℕ) (f : ℕ) (dump : Bool) → size_of values f ≤ 38 → most_of values f dump * size_of values f ≤ 510
unfolding most_of
most_size_lem values f true h = div-mul-le_self 510 (size_of values f)
most_size_lem values f false h = omega arith

module _ (place : Layout) (values area held₀ : List ℕ) where
  records-short : (f n : ℕ) (dump more : Bool) → f < 32 → size_of values f ≤ 38 → n ≤ most_of values f dump
      → length (history_chars n more (held_in (files_laid place values area held₀) f)) ≤ 511
  unfolding history_chars records_in
  records-short f n dump more k h l =
      let size = size_of values f in
      let g : min n (get_or held₀ f 0) ≤ most_of values f dump = omega arith in
      rw (held-files place values area held₀ f k, take-held (place.slot f) size area (place.base f) n (get_or held₀ f 0))
      (omega (arith, flat-most (place.slot f) size area (place.base f) (min n (get_or held₀ f 0)), mul-le-mul_right size g, most_size_lem values f dump h))

  Short : Told → Type 0
  Short t = length t.says.chars ≤ 511

  again-short : (w : Option HistoryReply) (q : Request) → file_of q < 32 → size_of values (file_of q) ≤ 38 → Short (again_when (cut values w) (files_laid place values area held₀) q)
  unfolding Short again_when cut untold agrees
  again-short None q k l = omega arith
  again-short (Some t) q k l =
      by_cond Short (is_of t.master (master_of q.address) && (eqb t.file.0 (file_of q) && beq t.dump (dumps q)))
      (λ a.
      let z : t.file.0 ≡ file_of q =
      eqb-true t.file.0 (file_of q) (and_left (eqb t.file.0 (file_of q)) (beq t.dump (dumps q))
      (and_right (is_of t.master (master_of q.address)) (eqb t.file.0 (file_of q) && beq t.dump (dumps q)) a)) in
      let g : min t.quantity (most_of values (file_of q) t.dump) ≤ most_of values (file_of q) t.dump = omega arith in
      rw z (records-short (file_of q) (min t.quantity (most_of values (file_of q) t.dump)) t.dump t.more k l g))
      (λ a. omega arith)

pub told-short : (u area : List ℕ) (q : Request) → valid_of (config_in u) ≡ true → length (told_in u area q).says.chars ≤ 511
unfolding Short tell_of told_from untold
told-short u area q v =
    let c = config_in u in
    let held : List ℕ = (unit_in u).counts in
    let w : (Option HistoryReply) = memory_in (unit_in u).numbers in
    let freed : Change = freed_for w (master_of q.address) in
    let P : Told → Type 0 = Short (packed c) c.values area held in
    by_cond P (ltb q.command 128)
    (λ e. by_cond P (counts 0 q)
    (λ e. by_cond P (has_file c.files (file_of q))
    (λ e.
    let l : file_of q < 32 = ltb-true (file_of q) 32 (and_left (ltb (file_of q) 32) (has c.files (file_of q)) (unfold has_file in e)) in
    let z : size_of c.values (file_of q) ≤ 38 = size_fits c (file_of q) v e in
    by_cond P (acknowledges q)
    (λ e.
    let rs = held_in (left_in u area freed) (file_of q) in
    let n : ℕ = min (length rs) (most_of c.values (file_of q) (dumps q)) in
    records-short (packed c) c.values (area_after (packed c) freed held area) (counts_after freed held) (file_of q) n (dumps q) (ltb n (length rs)) l z (omega arith))
    (λ e. again-short (packed c) c.values (area_after (packed c) stays held area) (counts_after stays held) w q l z))
    (λ e. omega arith))
    (λ e. omega arith))
    (λ e. omega arith)
