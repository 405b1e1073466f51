-- What functions 10h, 20h and 28h say is such as a master believes, over any select, write, clock and areas of a unit. Assumes nothing.
use Prim.Native.Nat.{ℕ}
use mathlib.Core.Path.{◌≡◌, refl, sym, ◌∙◌, subst}
use mathlib.Core.List.{List, [], ◌∷◌}
use mathlib.Core.Bool.{Bool, true, false, ◌&&◌}
use lib.ListN.{length, get_or}
use lib.Dec.{eqb, leb}
use native.Mathlib.Omega.{arith}
use borrow.Author.Tests.{eqb-true, eqb-false, eq-eqb, ne_eqb}
use Rattle.model.specs.Limits.{most_asked, most_lag}
use Rattle.model.specs.Frame.{Request, master_of}
use Rattle.model.specs.Outcome.{sending_of}
use Rattle.model.specs.Config.{Config, has, within, accumulator}
use Rattle.model.specs.State.{Inner}
use Rattle.model.specs.Scan.{tells, refuses, counts}
use Rattle.model.specs.Inputs.{Changed, has_accumulator, reset_count_of}
use Rattle.model.specs.Control.{Controlled, is_of, takes, select_when, operate_when, reset_when, select_of, control_of}
use Rattle.model.specs.Blocks.{
  reaches,
  WriteResult,
  waits_for,
  write_when,
  write_of,
  Executed,
  not_executed,
  executes,
  execute_when,
  execute_of,
}
use Rattle.model.specs.Clock.{Timed, set_time_of, time_fits}
use Rattle.model.specs.Ask.{good_time, asks_control, asks_all, asks_internal}
use Rattle.model.specs.Believe.{
  empty,
  same_chars,
  tells_control,
  tells_internal,
}
use Rattle.model.specs.Step.{scanned, changed, timed, written, executed, internal_of, alone, initial_step, internal_step}
use Rattle.model.specs.declared.Outcome.{Outcome}
use Rattle.model.specs.declared.Outcome.TheVariants.{WriteTaken, WrongCount, NotValid, SelectTimedOut, SelectHeld, NothingWaits, WriteHeld}
use Rattle.model.specs.declared.Sending.TheVariants.{Nop}
use Rattle.model.specs.declared.Master.{Master}
use Rattle.model.specs.declared.Hold.{Hold}
use Rattle.model.specs.declared.Hold.TheVariants.{Free, Held, TimedOut}
use Rattle.std.specs.Prelude.{None, Option, Some}
use Rattle.model.specs.declared.Write.{Write}
use Rattle.model.proofs.Conditions.{by_cond, by_eqb, and_left, and_right, and_both, or_cases}
use Rattle.model.proofs.Asking.{counted, within_both}
use Rattle.model.proofs.Keeping.{same_refl}
use Rattle.model.proofs.Telling.{
  could_send,
  Answers,
  told,
  declined,
  reset,
  tell_control,
  tell_internal,
  refuse_control,
  refuse_internal,
}

-- a list of one
one_is : (xs : List ℕ) → length xs ≡ 1 → get_or xs 0 0 ∷ [] ≡ xs
one_is [] e = absurd (omega arith)
one_is (x ∷ []) e = refl
one_is (x ∷ y ∷ xs) e = absurd (omega arith)

no_data_lem : empty [] ≡ true
unfolding empty
no_data_lem = refl

-- ---- function 10h

module _ (table : List ℕ) (h : Hold) (q : Request) (e : q.function ≡ 0x10) where
  Controls : Controlled → Type 0
  Controls r = Answers q r.says

  control_refused : (o : Outcome) → sending_of o ≡ Nop → eqb q.command 0x21 ≡ false → Answers q (refuses o)
  control_refused o s c = declined q [] o s (omega arith) (refuse_control q [] e ∙ rw c no_data_lem)

  module _ (w : within 0x10 0x11 q.command ≡ true) (n : counts 1 q ≡ true) where
    number_echoed : Answers q (tells (get_or q.body 0 0 ∷ []))
    number_echoed =
        told q (get_or q.body 0 0 ∷ []) (omega arith)
        (tell_control q _ e
        ∙ (unfold tells_control in rw w (subst (λ (z : List ℕ). same_chars z q.body ≡ true) (sym (one_is q.body (counted 1 q n))) (same_refl q.body))))

    select_when_lem : (x : Hold) (close : Bool) → Controls (select_when x (master_of q.address) (get_or q.body 0 0) close)
    unfolding Controls select_when takes
    select_when_lem Free close = number_echoed
    select_when_lem (TimedOut p) close = number_echoed
    select_when_lem (Held s) close = reset q SelectHeld refl

    select_answer : (close : Bool) → Controls (select_of table h q close)
    unfolding Controls select_of
    select_answer close =
        let l = within_both 0x10 0x11 q.command w in
        let c : eqb q.command 0x21 ≡ false = ne_eqb q.command 0x21 (λ z. omega (arith, l.1)) in
        rw n
        (by_cond {A = Controlled} (λ r. Answers q r.says) (has table (get_or q.body 0 0)) (λ k. select_when_lem h close) (λ k. control_refused NotValid refl c))

  operate_told : q.command ≡ 0x20 → Answers q (tells [])
  operate_told c =
      told q [] (omega arith)
      (tell_control q [] e
      ∙ (unfold tells_control within in rw (c) (unfold empty in refl)))

  operate_when_lem : q.command ≡ 0x20 → (x : Hold) (m : Master) → Controls (operate_when x m)
  unfolding Controls operate_when
  operate_when_lem c Free m = reset q NothingWaits refl
  operate_when_lem c (TimedOut p) m =
      let k : eqb q.command 0x21 ≡ false = ne_eqb q.command 0x21 (λ z. omega arith) in
      by_cond {A = Controlled} (λ r. Answers q r.says) (is_of p m) (λ e. control_refused SelectTimedOut refl k) (λ e. reset q NothingWaits refl)
  operate_when_lem c (Held s) m =
      by_cond {A = Controlled} (λ r. Answers q r.says) (is_of s.master m) (λ e. operate_told c) (λ e. reset q SelectHeld refl)

  reset_when_lem : (x : Hold) → Controls (reset_when x)
  unfolding Controls reset_when
  reset_when_lem Free = reset q NothingWaits refl
  reset_when_lem (TimedOut p) = reset q NothingWaits refl
  reset_when_lem (Held s) = reset q SelectHeld refl

  pub control_answer : asks_control q ≡ true → Answers q (control_of table h q).says
  unfolding asks_control control_of Controls
  control_answer a =
      or_cases (within 0x10 0x11 q.command && counts 1 q) _ a
      (λ k.
      let w = and_left (within 0x10 0x11 q.command) _ k in
      let n = and_right (within 0x10 0x11 q.command) _ k in
      let l = within_both 0x10 0x11 q.command w in
      by_cond Controls (eqb q.command 0x10) (λ c. select_answer w n false)
      (λ c. by_cond Controls (eqb q.command 0x11) (λ d. select_answer w n true)
      (λ d. absurd (omega (arith, l.0, l.1, eqb-false q.command 0x10 c, eqb-false q.command 0x11 d)))))
      (λ k.
      let n = and_right (within 0x20 0x21 q.command) _ k in
      let l = within_both 0x20 0x21 q.command (and_left (within 0x20 0x21 q.command) _ k) in
      by_eqb q.command 0x20
      (λ c. rw (ne_eqb q.command 0x10 (λ z. omega arith), ne_eqb q.command 0x11 (λ z. omega arith), eq-eqb q.command 0x20 c, n) (operate_when_lem c h (master_of q.address)))
      (λ c.
      let d : q.command ≡ 0x21 = omega (arith, l.0, l.1) in
      rw (ne_eqb q.command 0x10 (λ z. omega arith), ne_eqb q.command 0x11 (λ z. omega arith), ne_eqb q.command 0x20 c, eq-eqb q.command 0x21 d, n) (reset_when_lem h)))

-- ---- function 20h

module _ (c : Config) (i : Inner) (lag : ℕ) (q : Request) (e : q.function ≡ 0x20) where
  -- every command that is refused so
  internal_refused : (o : Outcome) → sending_of o ≡ Nop → (q.command ≡ 0x00 → ⊥) → (q.command ≡ 0x30 → ⊥) → Answers q (refuses o)
  internal_refused o s x y = declined q [] o s (omega arith) (refuse_internal q [] e ∙ rw (ne_eqb q.command 0x00 x, ne_eqb q.command 0x30 y) no_data_lem)

  internal_done : (q.command ≡ 0x11 → ⊥) → (q.command ≡ 0x30 → ⊥) → Answers q (tells [])
  internal_done x y = told q [] (omega arith) (tell_internal q [] e ∙ (unfold tells_internal in rw (ne_eqb q.command 0x11 x, ne_eqb q.command 0x30 y) (unfold empty in refl)))

  silent : Answers q (record { outcome = WriteTaken; chars = [] })
  unfolding Answers could_send
  silent = (omega arith, refl)

  -- 20h/11h
  reset-answer : q.command ≡ 0x11 → counts 1 q ≡ true → Answers q (reset_count_of c.inputs i.areas.words q).says
  unfolding reset_count_of
  reset-answer m n =
      rw n
      (by_cond {A = Changed} (λ r. Answers q r.says) (has_accumulator c.inputs (get_or q.body 0 0)) (λ k. echoed k) (λ k. internal_refused NotValid refl (λ z. omega arith) (λ z. omega arith)))
    where
      echoed : has_accumulator c.inputs (get_or q.body 0 0) ≡ true → Answers q (tells q.body)
      echoed k =
          told q q.body (omega (arith, counted 1 q n))
          (tell_internal q q.body e
          ∙ (unfold tells_internal has_accumulator in rw (eq-eqb q.command 0x11 m) (and_both (same_refl q.body) (and_left (accumulator (get_or q.body 0 0)) _ k))))

  -- 20h/30h: taken, and then nothing is sent, or refused by RST
  write_when_lem : (p : Option Write) (m : Master) (bias o : ℕ) → Answers q (write_when p m bias o).says
  unfolding write_when waits_for
  write_when_lem None m bias o = silent
  write_when_lem (Some w) m bias o =
      by_cond {A = WriteResult} (λ r. Answers q r.says) (is_of w.master m) (λ k. silent) (λ k. reset q WriteHeld refl)

  write-answer : counts 3 q ≡ true → Answers q (write_of i.core.write q).says
  unfolding write_of
  write-answer n = rw n (write_when_lem i.core.write _ _ _)

  -- 20h/31h
  module _ (m : q.command ≡ 0x31) where
    execute_when_lem : (p : Option Write) → Answers q (execute_when p i.areas.fixed i.areas.block q).says
    unfolding execute_when executes not_executed
    execute_when_lem None = reset q NothingWaits refl
    execute_when_lem (Some w) =
        let done : Answers q (tells []) = internal_done (λ z. omega arith) (λ z. omega arith) in
        by_cond {A = Executed} (λ r. Answers q r.says) (is_of w.master (master_of q.address))
        (λ k. by_cond {A = Executed} (λ r. Answers q r.says) (reaches i.areas.fixed i.areas.block w.ordinal.0 w.bias (length q.body)) (λ k. done) (λ k. internal_refused NotValid refl (λ z. omega arith) (λ z. omega arith)))
        (λ k. reset q WriteHeld refl)

    execute-answer : within 1 most_asked (length q.body) ≡ true → Answers q (execute_of i.core.write i.areas.fixed i.areas.block q).says
    unfolding execute_of
    execute-answer n = rw n (execute_when_lem i.core.write)

  -- 20h/38h
  time-answer : q.command ≡ 0x38 → Answers q (set_time_of lag i.core.clock q).says
  unfolding set_time_of
  time-answer m =
      let P : Timed → Type 0 = λ r. Answers q r.says in
      by_cond P (counts 7 q)
      (λ k. by_cond P (time_fits q.body && leb lag most_lag) (λ k. internal_done (λ z. omega arith) (λ z. omega arith)) (λ k. internal_refused NotValid refl (λ z. omega arith) (λ z. omega arith)))
      (λ k. internal_refused WrongCount refl (λ z. omega arith) (λ z. omega arith))

  -- 20h/00
  initial_answer : q.command ≡ 0x00 → counts 0 q ≡ true → Answers q (initial_step i q).step.says
  unfolding initial_step scanned
  initial_answer m n = rw n (internal_done (λ z. omega arith) (λ z. omega arith))

  -- by command
  on_reset : (eqb q.command 0x11 && counts 1 q) ≡ true → Answers q (internal_step c i lag q).step.says
  unfolding internal_step internal_of alone changed
  on_reset k =
      let m = eqb-true q.command 0x11 (and_left (eqb q.command 0x11) _ k) in
      rw (ne_eqb q.command 0x00 (λ z. omega arith), eq-eqb q.command 0x11 m) (reset-answer m (and_right (eqb q.command 0x11) _ k))

  on_time : (eqb q.command 0x38 && good_time q.body) ≡ true → Answers q (internal_step c i lag q).step.says
  unfolding internal_step internal_of alone timed
  on_time k =
      let m = eqb-true q.command 0x38 (and_left (eqb q.command 0x38) _ k) in
      rw (
        ne_eqb q.command 0x00 (λ z. omega arith),
        ne_eqb q.command 0x11 (λ z. omega arith),
        ne_eqb q.command 0x30 (λ z. omega arith),
        ne_eqb q.command 0x31 (λ z. omega arith),
        eq-eqb q.command 0x38 m,
      )
      (time-answer m)

  on_initial : (eqb q.command 0x00 && counts 0 q) ≡ true → Answers q (internal_step c i lag q).step.says
  unfolding internal_step
  on_initial k =
      let m = eqb-true q.command 0x00 (and_left (eqb q.command 0x00) _ k) in
      rw (eq-eqb q.command 0x00 m) (initial_answer m (and_right (eqb q.command 0x00) _ k))

  on_write : (eqb q.command 0x30 && counts 3 q) ≡ true → Answers q (internal_step c i lag q).step.says
  unfolding internal_step internal_of alone written
  on_write k =
      let m = eqb-true q.command 0x30 (and_left (eqb q.command 0x30) _ k) in
      rw (ne_eqb q.command 0x00 (λ z. omega arith), ne_eqb q.command 0x11 (λ z. omega arith), eq-eqb q.command 0x30 m)
      (write-answer (and_right (eqb q.command 0x30) _ k))

  on_execute : (eqb q.command 0x31 && within 1 most_asked (length q.body)) ≡ true → Answers q (internal_step c i lag q).step.says
  unfolding internal_step internal_of alone executed
  on_execute k =
      let m = eqb-true q.command 0x31 (and_left (eqb q.command 0x31) _ k) in
      rw (ne_eqb q.command 0x00 (λ z. omega arith), ne_eqb q.command 0x11 (λ z. omega arith), ne_eqb q.command 0x30 (λ z. omega arith), eq-eqb q.command 0x31 m)
      (execute-answer m (and_right (eqb q.command 0x31) _ k))

  pub internal_answer : asks_internal q ≡ true → Answers q (internal_step c i lag q).step.says
  unfolding asks_internal asks_all
  internal_answer a =
      or_cases (asks_all q) _ a (λ k. or_cases (eqb q.command 0x11 && counts 1 q) _ k on_reset on_time)
      (λ k. or_cases (eqb q.command 0x00 && counts 0 q) _ k on_initial
      (λ k. or_cases (eqb q.command 0x30 && counts 3 q) _ k on_write on_execute))
