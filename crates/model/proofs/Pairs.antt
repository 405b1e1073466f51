-- A pair in the step: what its WRITE leaves where it is taken, and what the two come to. Assumes nothing.
use Rattle.std.specs.Prelude.{None, Option, Some}
use mathlib.Core.Path.{◌≡◌, refl, sym, ap, ◌∙◌}
use Prim.Native.Nat.{ℕ}
use native.Mathlib.Omega.{arith}
use mathlib.Core.List.{List}
use mathlib.Core.Bool.{true, false}
use lib.ListN.{length, take, drop}
use lib.Dec.{eqb}
use borrow.Author.Tests.{eqb-true, eq-eqb}
use Rattle.chars.proofs.PutLaws.{length_part}
use Rattle.model.specs.Limits.{most_asked, write_frame}
use Rattle.model.specs.Frame.{Request, unit_of, master_of, broadcast_unit, request_in}
use Rattle.model.specs.Sound.{WholePair}
use Rattle.model.specs.Outcome.{number_of, sending_of, answer_number}
use Rattle.model.specs.Config.{Config, within}
use Rattle.model.specs.State.{Inner}
use Rattle.model.specs.Change.{stays, applied, dropped_after, changed_by}
use Rattle.model.specs.Scan.{counts}
use Rattle.model.specs.Control.{is_of, breaks}
use Rattle.model.specs.Blocks.{WriteResult, waits_for, write_when, write_of, Executed, not_executed, executes, execute_when, execute_of, reaches, dropped}
use Rattle.model.specs.Step.{Step, with_write, with_broadcast, scanned, written, executed, internal_of, status_of, Said, silent, said, sent_as, answered, Made, quiet, settled, Stepped, finished, alone, broken_off, internal_step, step_of, areas_left, started_anew, served, broadcast_made, framed, followed, judged}
use Rattle.model.specs.Laws.{WriteEnds, taken, broken_off as wasBroken, held, PairEnds, done, wrong_count, not_valid, unwritten, PairMade}
use Rattle.model.specs.declared.Outcome.{Outcome}
use Rattle.model.specs.declared.Outcome.TheVariants.{WriteTaken}
use Rattle.model.specs.declared.Sending.{Sending}
use Rattle.model.specs.declared.Sending.TheVariants.{Normal, Nop, Rst, Unanswered}
use Rattle.model.specs.declared.Answer.TheVariants.{Ended}
use Rattle.model.specs.declared.Master.{Master}
use Rattle.model.specs.declared.Write.{Write}
use Rattle.model.specs.declared.Frame.{Frame}
use Rattle.model.specs.declared.Heard.TheVariants.{Pair}
use Rattle.model.proofs.Conditions.{by_cond, by_bool, false-true}
use Rattle.model.proofs.PairLaws.{pair_front}

-- ---- the WRITE

-- a WRITE of master a was taken: it waits, no other write did, and all else is as it was
pub record Taken (i : Inner) (a : Master) (m : Made) : Type 0 where
  pub answer : m.answer ≡ Ended WriteTaken
  pub action : m.action ≡ None
  pub sent : m.sent ≡ silent
  pub change : m.change ≡ stays
  pub write : Write
  pub owner : is_of write.master a ≡ true
  pub earlier : dropped i.core.write a ≡ None
  pub inner : m.inner ≡ record { core = with_write i.core (Some write); areas = i.areas; history = i.history }

module _ (c : Config) (i : Inner) (lag : ℕ) (w : Request) (f : w.function ≡ 0x20) (k : w.command ≡ 0x30) where
  abbrev by : Master
  by = master_of w.address

  abbrev wrote : WriteResult → Stepped
  wrote r = alone i (written i.core i.areas r)

  -- 12 comes first
  write_step : (P : Stepped → Type 0) → P (alone i (broken_off i.core i.areas)) → P (wrote (write_of i.core.write w)) → P (step_of c i lag w)
  unfolding step_of internal_step internal_of
  write_step P b t = simp (f, k) (by_cond P (breaks i.core.hold w) (λ e. b) (λ e. t))

  abbrev ends : Stepped → Made
  ends m = started_anew c w (finished i w m)

  -- which it is where 5 is the answer
  Takes : Made → Type 0
  Takes m = answer_number m.answer ≡ 5 → (unit_of w.address ≡ c.unit) × Taken i by m

  not_taken : (o : Outcome) (j : Inner) → (number_of o ≡ 5 → ⊥) → Takes (quiet (Ended o) j)
  unfolding Takes quiet
  not_taken o j n e = absurd (n e)

  broadcast_takes : (p : Step) → Takes (broadcast_made i p)
  unfolding broadcast_made
  broadcast_takes p =
      by_cond {A = Outcome} (λ o. Takes (quiet (Ended o) (record { core = with_broadcast p.core true; areas = p.areas; history = i.history })))
      (eqb (number_of p.says.outcome) 0) (λ e. not_taken _ _ (λ n. omega arith)) (λ e. not_taken _ _ (λ n. omega arith))

  module _ (own : unit_of w.address ≡ c.unit) where
    waits-takes : (bias o : ℕ) → dropped i.core.write by ≡ None → Takes (ends (wrote (waits_for by bias o)))
    unfolding Takes waits_for written alone finished settled answered sent_as changed_by applied dropped_after areas_left
    waits-takes bias o d n = (
      own,
      record { answer = refl; action = refl; sent = refl; change = refl; write = record { master = by; bias = bias; ordinal = record { 0 = o }; age = 0 }; owner = eq-eqb by.0 by.0 refl; earlier = d; inner = refl },
    )

    when_takes : (p : Option Write) (bias o : ℕ) → dropped p by ≡ dropped i.core.write by → Takes (ends (wrote (write_when p by bias o)))
    unfolding write_when dropped
    when_takes None bias o e = waits-takes bias o (sym e)
    when_takes (Some p) bias o e =
        by_cond {A = WriteResult} (λ r. Takes (ends (wrote r))) (is_of p.master by) (λ b. waits-takes bias o (sym e ∙ rw b))
        (λ b. unfold Takes written alone finished in λ n. absurd (omega arith))

    write-takes : Takes (ends (wrote (write_of i.core.write w)))
    unfolding write_of
    write-takes =
        by_cond {A = WriteResult} (λ r. Takes (ends (wrote r))) (counts 3 w) (λ e. when_takes i.core.write _ _ refl)
        (λ e. unfold Takes written alone finished in λ n. absurd (omega arith))

    served-takes : Takes (served c i lag w)
    unfolding served
    served-takes =
        write_step (λ m. Takes (ends m)) (unfold Takes broken_off scanned alone finished in λ n. absurd (omega arith)) write-takes

  pub write-taken : answer_number (framed c i lag w).answer ≡ 5 → (unit_of w.address ≡ c.unit) × Taken i by (framed c i lag w)
  unfolding Takes framed
  write-taken =
      by_cond Takes (eqb (unit_of w.address) c.unit) (λ e. served-takes (eqb-true _ _ e))
      (λ e. by_cond Takes (eqb (unit_of w.address) broadcast_unit) (λ e. broadcast_takes _) (λ e. not_taken _ _ (λ n. omega arith)))

  -- with its three characters it ends as a WRITE may
  when_ends : (p : Option Write) (m : Master) (bias o : ℕ) → WriteEnds (write_when p m bias o).says.outcome
  unfolding write_when waits_for
  when_ends None m bias o = taken
  when_ends (Some p) m bias o = by_cond {A = WriteResult} (λ r. WriteEnds r.says.outcome) (is_of p.master m) (λ e. taken) (λ e. held)

  pub write-ends : counts 3 w ≡ true → WriteEnds (step_of c i lag w).step.says.outcome
  unfolding write_of
  write-ends n =
      write_step (λ m. WriteEnds m.step.says.outcome) (unfold broken_off scanned alone in wasBroken)
      (unfold written alone in rw n (when_ends i.core.write by _ _))

-- ---- the EXECUTE

module _ (c : Config) (i : Inner) (lag : ℕ) (x : Request) (f : x.function ≡ 0x20) (k : x.command ≡ 0x31) where
  abbrev did : Executed → Stepped
  did r = alone i (executed c.inputs i.core i.areas r)

  abbrev Ends : Stepped → Type 0
  Ends m = PairEnds m.step.says.outcome

  -- of a write of its own master that waits
  pub execute-ends : (w : Write) → i.core.write ≡ Some w → is_of w.master (master_of x.address) ≡ true → Ends (step_of c i lag x)
  unfolding step_of internal_step internal_of execute_of execute_when executes not_executed executed broken_off scanned alone
  execute-ends w e own =
      let P : Executed → Type 0 = λ r. Ends (did r) in
      simp (f, k, e, own)
      (by_cond Ends (breaks i.core.hold x) (λ b. unwritten wasBroken (λ z. let n : ◌≡◌ {A = ℕ} 0 1 = cc in omega arith))
      (λ b. by_cond P (within 1 most_asked (length x.body))
      (λ b. by_cond P (reaches i.areas.fixed i.areas.block w.ordinal.0 w.bias (length x.body)) (λ b. done) (λ b. not_valid))
      (λ b. wrong_count)))

-- ---- the two

ends-said : (x : Sending) (u r : Said) → sent_as x u ≡ said r → u ≡ r
unfolding sent_as
ends-said Normal u r e = cc
ends-said Nop u r e = cc
ends-said Rst u r e = cc
ends-said Unanswered u r e = let z : ◌≡◌ {A = ℕ} 0 1 = cc in absurd (omega arith)

dropped_twice : (p : Option Write) (a : Master) → dropped (dropped p a) a ≡ dropped p a
unfolding dropped
dropped_twice None a = refl
dropped_twice (Some w) a = by_bool (is_of w.master a) (λ e. rw e) (λ e. rw (e, e))

-- none of them is a WRITE taken
ends-other : {o : Outcome} → PairEnds o → eqb (number_of o) 5 ≡ false
ends-other done = refl
ends-other wrong_count = refl
ends-other not_valid = refl
ends-other (unwritten taken n) = absurd (n refl)
ends-other (unwritten wasBroken n) = refl
ends-other (unwritten held n) = refl

made_pair : (c : Config) (i j : Inner) (q : Request) (m : Stepped) → status_of j.core ≡ status_of i.core → PairEnds m.step.says.outcome
    → PairMade i (master_of q.address) (started_anew c q (finished j q m))
unfolding finished settled
made_pair c i j q m s e =
    record {
      outcome = m.step.says.outcome;
      ends = e;
      answer = refl;
      status = λ r z. sym (ap (λ (u : Said). u.status) (ends-said (sending_of m.step.says.outcome) _ r z)) ∙ s;
      gone = rw (ends-other e) (dropped_twice m.step.core.write (master_of q.address));
    }

pub framed-own : (c : Config) (i : Inner) (lag : ℕ) (q : Request) → unit_of q.address ≡ c.unit → framed c i lag q ≡ started_anew c q (finished i q (step_of c i lag q))
unfolding framed served
framed-own c i lag q e = rw (eq-eqb (unit_of q.address) c.unit e)

-- a WRITE that is not taken is refused
refused-ends : {o : Outcome} → WriteEnds o → eqb (number_of o) 5 ≡ false → PairEnds o
refused-ends taken e = false-true (sym e)
refused-ends wasBroken e = unwritten wasBroken (λ z. let n : ◌≡◌ {A = ℕ} 0 1 = cc in omega arith)
refused-ends held e = unwritten held (λ z. let n : ◌≡◌ {A = ℕ} 0 1 = cc in omega arith)

module _ (c : Config) (i : Inner) (lag : ℕ) (s : List ℕ) (w x : Frame) (p : WholePair s w x) where
  abbrev asks : Request
  asks = request_in w (take write_frame s)

  abbrev gives : Request
  gives = request_in x (drop write_frame s)

  three : counts 3 asks ≡ true
  unfolding counts request_in
  three =
      let n : w.count ≡ 3 = omega (arith, pair_front s w x p, p.write.count) in
      rw n (eq-eqb _ _ (length_part (take write_frame s) 6 3 (omega (arith, pair_front s w x p))))

  -- what the WRITE of a pair leaves where it was taken
  pub pair-taken : answer_number (framed c i lag asks).answer ≡ 5 → (unit_of w.address ≡ c.unit) × Taken i (master_of w.address) (framed c i lag asks)
  unfolding request_in
  pair-taken = write-taken c i lag asks p.writes.0 p.writes.1

  -- a pair by its WRITE: taken, or not
  pub by_pair : (P : Made → Type 0)
      → (unit_of w.address ≡ c.unit → Taken i (master_of w.address) (framed c i lag asks) → P (framed c (framed c i lag asks).inner lag gives))
      → (eqb (answer_number (framed c i lag asks).answer) 5 ≡ false → P (framed c i lag asks)) → P (judged c i lag s (Pair w x))
  unfolding judged followed
  by_pair P after instead =
      by_cond P (eqb (answer_number (framed c i lag asks).answer) 5) (λ e. let t = pair-taken (eqb-true _ _ e) in after t.0 t.1) instead

  module _ (own : unit_of w.address ≡ c.unit) where
    -- the WRITE by itself, as the cut at the seam leaves it
    pub seam-ends : WriteEnds (step_of c i lag asks).step.says.outcome
    unfolding request_in
    seam-ends = write-ends c i lag asks p.writes.0 p.writes.1 three

    unwritten_made : eqb (answer_number (framed c i lag asks).answer) 5 ≡ false → PairMade i (master_of w.address) (framed c i lag asks)
    unfolding request_in finished
    unwritten_made e =
        let z = framed-own c i lag asks own in
        rw z (made_pair c i i asks _ refl (refused-ends seam-ends (rw z at e)))

    executed_made : (j : Inner) (v : Write) → is_of v.master (master_of w.address) ≡ true
        → j ≡ record { core = with_write i.core (Some v); areas = i.areas; history = i.history }
        → PairMade i (master_of w.address) (framed c j lag gives)
    unfolding request_in status_of
    executed_made j v o e =
        let a : x.address ≡ w.address = sym p.address in
        let k : unit_of x.address ≡ c.unit = ap unit_of a ∙ own in
        rw (framed-own c j lag gives k, ← a)
        (made_pair c i j gives _ (ap (λ (z : Inner). status_of z.core) e)
        (execute-ends c j lag gives p.executes.0 p.executes.1 v (ap (λ (z : Inner). z.core.write) e) (rw a o)))

    -- THE LAW: what a pair for this unit comes to (Request 5.2, 5.4)
    pub pair_made : PairMade i (master_of w.address) (judged c i lag s (Pair w x))
    pair_made = by_pair (PairMade i (master_of w.address)) (λ o t. executed_made _ t.write t.owner t.inner) unwritten_made
