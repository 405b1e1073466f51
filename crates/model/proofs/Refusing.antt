-- What each function leaves where it refuses. Assumes nothing.
use Rattle.std.specs.Prelude.{None, Option, Some}
use Prim.Native.Nat.{ℕ, ◌%◌, ◌≤◌}
use native.Mathlib.Omega.{arith}
use mathlib.Core.Path.{◌≡◌, refl, sym, ap, ◌∙◌}
use mathlib.Core.List.{List}
use mathlib.Core.Bool.{Bool, true, false, not, ◌&&◌, ◌||◌, true≢false}
use lib.ListN.{length, get_or}
use lib.Dec.{eqb, leb}
use borrow.Author.Tests.{not-true, leb-true, ne_eqb}
use Rattle.chars.specs.Word.{word_at}
use Rattle.chars.specs.Gather.{gather, up_from}
use Rattle.model.specs.Limits.{most_data, most_asked, most_lag}
use Rattle.model.specs.Frame.{Request, master_of}
use Rattle.model.specs.Outcome.{number_of, carried_out}
use Rattle.model.specs.Config.{Config, has, within}
use Rattle.model.specs.State.{Areas}
use Rattle.model.specs.Scan.{Scan, refuses, counts, with_no_data}
use Rattle.model.specs.Inputs.{Changed, has_accumulator, unreserved, inputs_of, reset_count_of}
use Rattle.model.specs.Tables.{table_asked}
use Rattle.model.specs.Plans.{planned_scan, planned_of}
use Rattle.model.specs.Calculations.{fitting, value_of, all_of, pair_of, missing_of, asked_of, calculations_of}
use Rattle.model.specs.Means.{equipped_now}
use Rattle.model.specs.Control.{Controlled, is_of, takes, select_when, operate_when, reset_when, select_of, control_of}
use Rattle.model.specs.Blocks.{reaches, waits_for, write_when, write_of, not_executed, executes, execute_when, execute_of, returned, read_of}
use Rattle.model.specs.Clock.{Timed, time_fits, set_time_of, read_time_of}
use Rattle.model.specs.Step.{Step, with_hold, with_write, scanned, changed, controlled, timed, written, executed, internal_of, return_of, other_of, broken_off, broadcast_of}
use Rattle.model.specs.Refusal.{declined, refused_hold}
use Rattle.model.specs.declared.Outcome.{Outcome}
use Rattle.model.specs.declared.Outcome.TheVariants.{Unknown}
use Rattle.model.specs.declared.Master.{Master}
use Rattle.model.specs.declared.Hold.{Hold}
use Rattle.model.specs.declared.Hold.TheVariants.{Free, Held, TimedOut}
use Rattle.model.specs.declared.Write.{Write}
use Rattle.model.specs.declared.Core.{Core}
use Rattle.model.proofs.Conditions.{by_cond, and_left, and_right, or_left}

-- ---- a function that does what it is asked, or nothing

-- outcomes 6 to 15 but for 11 and 12
abbrev plain : Outcome → Bool
plain o = (leb 6 (number_of o) && leb (number_of o) 15) && not (eqb (number_of o) 11 || eqb (number_of o) 12)

-- a step that only says no
abbrev stays : Core → Areas → Step → Step
stays k a p = record { says = p.says; action = None; core = k; areas = a }

-- a step by itself
abbrev pub itself : Step → Step
itself p = p

pub record Unmoved (k : Core) (a : Areas) (p : Step) : Type 0 where
  pub row : plain p.says.outcome ≡ true
  pub same : p ≡ stays k a p

-- r, made into a step by w, is done or leaves all as it was
pub record Plain {A : Type 0} (k : Core) (a : Areas) (w : A → Step) (r : A) : Type 0 where
  pub unmoved : eqb (number_of (w r).says.outcome) 0 ≡ false → Unmoved k a (w r)

module _ {A : Type 0} {k : Core} {a : Areas} {w : A → Step} {r : A} where
  does : eqb (number_of (w r).says.outcome) 0 ≡ true → Plain k a w r
  does d = record { unmoved = λ e. absurd (true≢false (sym d ∙ e)) }

  leaves : plain (w r).says.outcome ≡ true → w r ≡ stays k a (w r) → Plain k a w r
  leaves p s = record { unmoved = λ e. record { row = p; same = s } }

  plain_step : Plain k a w r → Plain k a itself (w r)
  plain_step h = record { unmoved = h.unmoved }

module _ (k : Core) (a : Areas) where
  abbrev scan : Scan → Type 0
  scan = Plain k a (scanned k a)

  no_data_plain : (q : Request) (r : Scan) → Plain k a (scanned k a) r → Plain k a (scanned k a) (with_no_data q r)
  unfolding with_no_data scanned
  no_data_plain q r h = by_cond scan (counts 0 q) (λ e. h) (λ e. leaves refl refl)

  inputs-plain : (table words : List ℕ) (q : Request) → Plain k a (scanned k a) (inputs_of table words q)
  unfolding inputs_of scanned
  inputs-plain table words q = by_cond scan (unreserved q.command) (λ e. no_data_plain q _ (does refl)) (λ e. leaves refl refl)

  fitting-plain : (ys : List ℕ) → Plain k a (scanned k a) (fitting ys)
  unfolding fitting scanned
  fitting-plain ys = by_cond scan (leb (length ys) most_data) (λ e. does refl) (λ e. leaves refl refl)

  asked-plain : (table values ns : List ℕ) → Plain k a (scanned k a) (asked_of table values ns)
  unfolding asked_of scanned
  asked-plain table values ns =
      by_cond scan (eqb (length (gather (missing_of table) ns)) 0) (λ e. fitting-plain (gather (pair_of values) ns)) (λ e. leaves refl refl)

  calculations-plain : (table values : List ℕ) (q : Request) → Plain k a (scanned k a) (calculations_of table values q)
  unfolding calculations_of all_of scanned
  calculations-plain table values q =
      by_cond scan (eqb q.command 0x80) (λ e. no_data_plain q _ (fitting-plain (gather (value_of table values) (up_from 0 128))))
      (λ e. by_cond scan (eqb q.command 0x00)
      (λ e. by_cond scan (within 1 most_asked (length q.body)) (λ e. asked-plain table values q.body) (λ e. leaves refl refl))
      (λ e. leaves refl refl))

  tables_plain : (plans fixed words : List ℕ) (q : Request) → Plain k a (scanned k a) (planned_of plans fixed words q)
  unfolding planned_of table_asked planned_scan scanned
  tables_plain plans fixed words q =
      by_cond scan (within 0x41 0x4F q.command)
      (λ e. no_data_plain q _ (by_cond scan (eqb (get_or plans (q.command % 16) 0) 0) (λ e. does refl)
      (λ e. by_cond (λ (o : Outcome). Plain k a (scanned k a) (refuses o)) (eqb (get_or plans (q.command % 16) 0) 9) (λ e. leaves refl refl) (λ e. leaves refl refl))))
      (λ e. leaves refl refl)

  read_plain : (fixed block : List ℕ) (q : Request) → Plain k a (scanned k a) (read_of fixed block q)
  unfolding read_of returned scanned
  read_plain fixed block q =
      by_cond scan (counts 4 q)
      (λ e. by_cond scan (reaches fixed block (get_or q.body 2 0) (word_at q.body 0) (get_or q.body 3 0)) (λ e. does refl) (λ e. leaves refl refl))
      (λ e. leaves refl refl)

  read-time-plain : (q : Request) → Plain k a (scanned k a) (read_time_of k.clock q)
  unfolding read_time_of scanned
  read-time-plain q = no_data_plain q _ (does refl)

  reset-count-plain : (table : List ℕ) (q : Request) → Plain k a (changed k a) (reset_count_of table a.words q)
  unfolding reset_count_of changed
  reset-count-plain table q =
      let P : Changed → Type 0 = Plain k a (changed k a) in
      by_cond P (counts 1 q) (λ e. by_cond P (has_accumulator table (get_or q.body 0 0)) (λ e. does refl) (λ e. leaves refl refl)) (λ e. leaves refl refl)

  set-time-plain : (lag : ℕ) (q : Request) → Plain k a (timed k a) (set_time_of lag k.clock q)
  unfolding set_time_of timed
  set-time-plain lag q =
      let P : Timed → Type 0 = Plain k a (timed k a) in
      by_cond P (counts 7 q) (λ e. by_cond P (time_fits q.body && leb lag most_lag) (λ e. does refl) (λ e. leaves refl refl)) (λ e. leaves refl refl)

  executes-plain : (table : List ℕ) (o bias : ℕ) (ys : List ℕ) → Plain k a (executed table k a) (executes a.fixed a.block o bias ys)
  unfolding executes not_executed executed
  executes-plain table o bias ys = by_cond (Plain k a (executed table k a)) (reaches a.fixed a.block o bias (length ys)) (λ e. does refl) (λ e. leaves refl refl)

  execute_when_plain : (table : List ℕ) (p : Option Write) (q : Request) → Plain k a (executed table k a) (execute_when p a.fixed a.block q)
  unfolding execute_when not_executed executed
  execute_when_plain table None q = leaves refl refl
  execute_when_plain table (Some w) q =
      by_cond (Plain k a (executed table k a)) (is_of w.master (master_of q.address)) (λ e. executes-plain table w.ordinal.0 w.bias q.body) (λ e. leaves refl refl)

  execute-plain : (table : List ℕ) (p : Option Write) (q : Request) → Plain k a (executed table k a) (execute_of p a.fixed a.block q)
  unfolding execute_of not_executed executed
  execute-plain table p q = by_cond (Plain k a (executed table k a)) (within 1 most_asked (length q.body)) (λ e. execute_when_plain table p q) (λ e. leaves refl refl)

-- ---- any function

-- a step that says no, and lets go of the select where its outcome says so
abbrev yields : Core → Areas → Step → Step
yields k a p = record { says = p.says; action = None; core = with_hold k (refused_hold p.says.outcome k.hold); areas = a }

pub record Spared (k : Core) (a : Areas) (p : Step) : Type 0 where
  pub row : declined p.says.outcome ≡ true
  pub same : p ≡ yields k a p

-- r, made into a step by w, is carried out or changes no more than a refusal may
pub record Kept {A : Type 0} (k : Core) (a : Areas) (w : A → Step) (r : A) : Type 0 where
  pub spared : carried_out (w r).says.outcome ≡ false → Spared k a (w r)

plain-declined : (o : Outcome) → plain o ≡ true → declined o ≡ true
unfolding declined within
plain-declined o e = and_left _ _ e

plain-hold : (o : Outcome) (h : Hold) → plain o ≡ true → refused_hold o h ≡ h
unfolding refused_hold
plain-hold o h e =
    let n : (eqb (number_of o) 11 || eqb (number_of o) 12) ≡ false = not-true _ (and_right (leb 6 (number_of o) && leb (number_of o) 15) _ e) in
    rw n

module _ {A : Type 0} {k : Core} {a : Areas} {w : A → Step} {r : A} where
  carries : carried_out (w r).says.outcome ≡ true → Kept k a w r
  carries d = record { spared = λ e. absurd (true≢false (sym d ∙ e)) }

  pub declines : declined (w r).says.outcome ≡ true → w r ≡ yields k a (w r) → Kept k a w r
  declines p s = record { spared = λ e. record { row = p; same = s } }

  kept_step : Kept k a w r → Kept k a itself (w r)
  kept_step h = record { spared = h.spared }

  plain-kept : Plain k a w r → Kept k a w r
  unfolding carried_out
  plain-kept h =
      record {
        spared = λ e.
            let u = h.unmoved (or_left _ _ e) in
            record { row = plain-declined _ u.row; same = rw (plain-hold (w r).says.outcome k.hold u.row) u.same };
      }

module _ (k : Core) (a : Areas) where
  select_when_kept : (h : Hold) (m : Master) (n : ℕ) (close : Bool) → Kept (with_hold k h) a (controlled k a) (select_when h m n close)
  unfolding select_when takes controlled carried_out declined within refused_hold
  select_when_kept Free m n close = carries refl
  select_when_kept (TimedOut p) m n close = carries refl
  select_when_kept (Held s) m n close = declines refl refl

  operate_when_kept : (h : Hold) (m : Master) → Kept (with_hold k h) a (controlled k a) (operate_when h m)
  unfolding operate_when controlled carried_out declined within refused_hold
  operate_when_kept Free m = declines refl refl
  operate_when_kept (TimedOut p) m = by_cond (Kept (with_hold k (TimedOut p)) a (controlled k a)) (is_of p m) (λ e. declines refl refl) (λ e. declines refl refl)
  operate_when_kept (Held s) m = by_cond (Kept (with_hold k (Held s)) a (controlled k a)) (is_of s.master m) (λ e. carries refl) (λ e. declines refl refl)

  reset_when_kept : (h : Hold) → Kept (with_hold k h) a (controlled k a) (reset_when h)
  unfolding reset_when controlled declined within refused_hold
  reset_when_kept Free = declines refl refl
  reset_when_kept (TimedOut p) = declines refl refl
  reset_when_kept (Held s) = declines refl refl

  select_kept : (table : List ℕ) (h : Hold) (q : Request) (close : Bool) → Kept (with_hold k h) a (controlled k a) (select_of table h q close)
  unfolding select_of controlled declined within refused_hold
  select_kept table h q close =
      let P : Controlled → Type 0 = Kept (with_hold k h) a (controlled k a) in
      by_cond P (counts 1 q)
      (λ e. by_cond P (has table (get_or q.body 0 0)) (λ e. select_when_kept h (master_of q.address) (get_or q.body 0 0) close) (λ e. declines refl refl))
      (λ e. declines refl refl)

  control_kept : (table : List ℕ) (h : Hold) (q : Request) → Kept (with_hold k h) a (controlled k a) (control_of table h q)
  unfolding control_of controlled declined within refused_hold
  control_kept table h q =
      let P : Controlled → Type 0 = Kept (with_hold k h) a (controlled k a) in
      by_cond P (eqb q.command 0x10) (λ e. select_kept table h q false)
      (λ e. by_cond P (eqb q.command 0x11) (λ e. select_kept table h q true)
      (λ e. by_cond P (eqb q.command 0x20) (λ e. by_cond P (counts 0 q) (λ e. operate_when_kept h (master_of q.address)) (λ e. declines refl refl))
      (λ e. by_cond P (eqb q.command 0x21) (λ e. by_cond P (counts 0 q) (λ e. reset_when_kept h) (λ e. declines refl refl))
      (λ e. declines refl refl))))

  -- and so 10h leaves the select where it is refused, but with 11 or 12
  pub control_leaves : (table : List ℕ) (h : Hold) (q : Request) → declined (control_of table h q).says.outcome ≡ true
      → (eqb (number_of (control_of table h q).says.outcome) 11 || eqb (number_of (control_of table h q).says.outcome) 12) ≡ false → (control_of table h q).hold ≡ h
  unfolding carried_out declined within controlled refused_hold
  control_leaves table h q d e =
      let n = number_of (control_of table h q).says.outcome in
      let six : 6 ≤ n = leb-true 6 n (and_left (leb 6 n) (leb n 15) d) in
      let said : carried_out (control_of table h q).says.outcome ≡ false =
      rw (ne_eqb n 0 (omega arith), ne_eqb n 4 (omega arith), ne_eqb n 5 (omega arith)) refl in
      ap (λ (p : Step). p.core.hold) ((control_kept table h q).spared said).same ∙ rw e refl

  write_when_kept : (p : Option Write) (m : Master) (bias o : ℕ) → Kept (with_write k p) a (written k a) (write_when p m bias o)
  unfolding write_when waits_for written carried_out declined within refused_hold
  write_when_kept None m bias o = carries refl
  write_when_kept (Some w) m bias o = by_cond (Kept (with_write k (Some w)) a (written k a)) (is_of w.master m) (λ e. carries refl) (λ e. declines refl refl)

  write_kept : (p : Option Write) (q : Request) → Kept (with_write k p) a (written k a) (write_of p q)
  unfolding write_of written declined within refused_hold
  write_kept p q = by_cond (Kept (with_write k p) a (written k a)) (counts 3 q) (λ e. write_when_kept p (master_of q.address) (word_at q.body 0) (get_or q.body 2 0)) (λ e. declines refl refl)

  -- ---- by function code

  unknown_kept : Kept k a itself (scanned k a (refuses Unknown))
  unfolding scanned declined within refused_hold
  unknown_kept = declines refl refl

  pub internal_kept : (c : Config) (lag : ℕ) (q : Request) → Kept k a itself (internal_of c k a lag q)
  unfolding internal_of
  internal_kept c lag q =
      let P : Step → Type 0 = Kept k a itself in
      by_cond P (eqb q.command 0x11) (λ e. kept_step (plain-kept (reset-count-plain k a c.inputs q)))
      (λ e. by_cond P (eqb q.command 0x30) (λ e. kept_step (write_kept k.write q))
      (λ e. by_cond P (eqb q.command 0x31) (λ e. kept_step (plain-kept (execute-plain k a c.inputs k.write q)))
      (λ e. by_cond P (eqb q.command 0x38) (λ e. kept_step (plain-kept (set-time-plain k a lag q)))
      (λ e. unknown_kept))))

  return_kept : (q : Request) → Kept k a itself (return_of k a q)
  unfolding return_of
  return_kept q =
      let P : Step → Type 0 = Kept k a itself in
      by_cond P (eqb q.command 0x30) (λ e. kept_step (plain-kept (read_plain k a a.fixed a.block q)))
      (λ e. by_cond P (eqb q.command 0x31) (λ e. kept_step (plain-kept (read-time-plain k a q)))
      (λ e. unknown_kept))

  pub other-kept : (c : Config) (q : Request) → Kept k a itself (other_of c k a q)
  unfolding other_of
  other-kept c q =
      let P : Step → Type 0 = Kept k a itself in
      by_cond P (eqb q.function 0x00) (λ e. kept_step (plain-kept (inputs-plain k a c.inputs a.words q)))
      (λ e. by_cond P (eqb q.function 0x03) (λ e. kept_step (plain-kept (calculations-plain k a (equipped_now c a.samples) a.values q)))
      (λ e. by_cond P (eqb q.function 0x0A) (λ e. kept_step (plain-kept (tables_plain k a a.plans a.fixed a.words q)))
      (λ e. by_cond P (eqb q.function 0x10) (λ e. kept_step (control_kept c.outputs k.hold q))
      (λ e. by_cond P (eqb q.function 0x28) (λ e. return_kept q)
      (λ e. unknown_kept)))))

  pub broken_off_kept : Kept k a itself (broken_off k a)
  unfolding broken_off scanned declined within refused_hold
  broken_off_kept = declines refl refl

  -- a broadcast is done or leaves all as it was
  pub broadcast_plain : (c : Config) (lag : ℕ) (q : Request) → Plain k a itself (broadcast_of c k a lag q)
  unfolding broadcast_of scanned
  broadcast_plain c lag q =
      let P : Step → Type 0 = Plain k a itself in
      by_cond P (eqb q.function 0x20 && eqb q.command 0x11) (λ e. plain_step (reset-count-plain k a c.inputs q))
      (λ e. by_cond P (eqb q.function 0x20 && eqb q.command 0x38) (λ e. plain_step (set-time-plain k a lag q))
      (λ e. leaves refl refl))
