-- What stands after a stretch that was refused, from what its function left. Assumes nothing.
use Prim.Native.Nat.{ℕ, ◌≤◌}
use mathlib.Core.Path.{◌≡◌, refl, sym, ap, ◌∙◌}
use mathlib.Core.List.{List}
use mathlib.Core.Bool.{true, false, not, ◌&&◌, true≢false}
use lib.ListN.{take, drop}
use lib.Dec.{eqb, leb, ltb}
use native.Mathlib.Omega.{arith}
use borrow.Author.Tests.{leb-true, ne_eqb}
use Rattle.model.specs.Limits.{write_frame}
use Rattle.model.specs.Frame.{Request, master_of, unit_of, broadcast_unit, frame_in, heard_of, request_in}
use Rattle.model.specs.Outcome.{number_of, sending_of, carried_out, answer_number}
use Rattle.model.specs.Config.{Config, within, has_file}
use Rattle.model.specs.State.{Files, Inner}
use Rattle.model.specs.Change.{Change, applied, dropped_after, changed_by}
use Rattle.model.specs.Scan.{refuses, counts}
use Rattle.model.specs.Sound.{WholePair}
use Rattle.model.specs.Control.{is_of, breaks}
use Rattle.model.specs.Blocks.{dropped}
use Rattle.model.specs.Laws.{taken, broken_off as broke, held, PairEnds, done, wrong_count, not_valid, unwritten}
use Rattle.model.specs.History.{Told, acknowledges, file_of, untold, told_from, agrees, again_when, tell_of, history_of}
use Rattle.model.specs.Step.{Step, with_hold, with_write, scanned, Said, sent_as, answered, Made, quiet, settled, Stepped, finished, alone, telling, initial_step, internal_step, step_of, areas_left, started_anew, served, broadcast_made, framed, judged}
use Rattle.model.specs.Refusal.{declined, refused_hold, refused_write, refused_broadcast, refused_core, refused_inner, replies, Refused}
use Rattle.model.specs.declared.Outcome.{Outcome}
use Rattle.model.specs.declared.Outcome.TheVariants.{Done, NotWhole, CheckWrong, OtherUnit, BroadcastDone, WriteTaken, Unknown, WrongCount, NotValid, TooLong, NothingAgain, SelectTimedOut, BrokenOff, SelectHeld, NothingWaits, WriteHeld, BroadcastRefused, NotConfigured, BufferShort}
use Rattle.model.specs.declared.Sending.{Sending}
use Rattle.model.specs.declared.Sending.TheVariants.{Normal, Nop, Rst, Unanswered}
use Rattle.model.specs.declared.Answer.TheVariants.{Ended}
use Rattle.model.specs.declared.Core.{Core}
use Rattle.std.specs.Prelude.{None, Option, Some}
use Rattle.model.specs.declared.HistoryReply.{HistoryReply}
use Rattle.model.specs.declared.Frame.{Frame}
use Rattle.model.specs.declared.Heard.TheVariants.{Pair}
use Rattle.model.specs.declared.Write.{Write}
use Rattle.model.proofs.Conditions.{by_cond, by_bool, and_left, and_right, or_left}
use Rattle.model.proofs.PairLaws.{by_heard, pair-address}
use Rattle.model.proofs.Pairs.{by_pair, pair_made}
use Rattle.model.proofs.Refusing.{itself, Plain, Kept, broadcast_plain, declines, internal_kept, other-kept, broken_off_kept}

-- ---- a stretch

-- 6 to 15 are the refusals that are answered
declined-answered : (o : Outcome) → declined o ≡ (answered (sending_of o) && not (carried_out o))
unfolding declined within answered carried_out
declined-answered Done = refl
declined-answered NotWhole = refl
declined-answered CheckWrong = refl
declined-answered OtherUnit = refl
declined-answered BroadcastDone = refl
declined-answered WriteTaken = refl
declined-answered Unknown = refl
declined-answered WrongCount = refl
declined-answered NotValid = refl
declined-answered TooLong = refl
declined-answered NothingAgain = refl
declined-answered SelectTimedOut = refl
declined-answered BrokenOff = refl
declined-answered SelectHeld = refl
declined-answered NothingWaits = refl
declined-answered WriteHeld = refl
declined-answered BroadcastRefused = refl
declined-answered NotConfigured = refl
declined-answered BufferShort = refl

answered-declined : (o : Outcome) → declined o ≡ true → answered (sending_of o) ≡ true
answered-declined o e = and_left _ (not (carried_out o)) (sym (declined-answered o) ∙ e)

declined_range : (o : Outcome) → declined o ≡ true → (6 ≤ number_of o) × (number_of o ≤ 15)
unfolding declined within
declined_range o e = (leb-true _ _ (and_left _ (leb (number_of o) 15) e), leb-true _ _ (and_right (leb 6 (number_of o)) _ e))

replies-sent : (x : Sending) (r : Said) → replies (sent_as x r) ≡ answered x
unfolding replies sent_as answered
replies-sent Normal r = refl
replies-sent Nop r = refl
replies-sent Rst r = refl
replies-sent Unanswered r = refl

settled-declined : (q : Request) (o : Outcome) (k : Core) → declined o ≡ true → settled q o (with_hold k (refused_hold o k.hold)) ≡ refused_core q o k
unfolding settled refused_core refused_write refused_broadcast
settled-declined q o k e =
    let five : eqb (number_of o) 5 ≡ false = ne_eqb (number_of o) 5 (λ n. omega (arith, declined_range o e)) in
    rw (five, answered-declined o e, e)

-- r, made by w, refuses no otherwise than a refusal may
pub record Meets {A : Type 0} (q : Request) (i : Inner) (w : A → Made) (r : A) : Type 0 where
  pub refuses : (o : Outcome) → (w r).answer ≡ Ended o → carried_out o ≡ false → Refused q o i (w r)

-- what is made, by itself
abbrev made : Made → Made
made m = m

module _ {A : Type 0} {q : Request} {i : Inner} {w : A → Made} {r : A} where
  meets : (o : Outcome) → (w r).answer ≡ Ended o → (carried_out o ≡ false → Refused q o i (w r)) → Meets q i w r
  meets o e f = record { refuses = λ x d n. let s : o ≡ x = cc in (rw s at f) n }

  carries_out : (o : Outcome) → (w r).answer ≡ Ended o → carried_out o ≡ true → Meets q i w r
  carries_out o e d = meets o e (λ n. absurd (true≢false (sym d ∙ n)))

  meets_made : Meets q i w r → Meets q i made (w r)
  meets_made h = record { refuses = h.refuses }

module _ (i : Inner) (q : Request) where
  alone_meets : (p : Step) → Kept i.core i.areas itself p → Meets q i (finished i q) (alone i p)
  unfolding alone finished changed_by applied dropped_after refused_inner
  alone_meets p h =
      meets p.says.outcome refl
      (λ n.
      let s = h.spared n in
      let core : p.core ≡ with_hold i.core (refused_hold p.says.outcome i.core.hold) = ap (λ (x : Step). x.core) s.same in
      let areas : p.areas ≡ i.areas = ap (λ (x : Step). x.areas) s.same in
      record {
        inner = rw (core, areas, settled-declined q p.says.outcome i.core s.row);
        action = ap (λ (x : Step). x.action) s.same;
        sent = replies-sent (sending_of p.says.outcome) _ ∙ answered-declined p.says.outcome s.row ∙ sym s.row;
        row = omega (arith, declined_range p.says.outcome s.row);
      })

  untold_meets : (o : Outcome)
      → Kept i.core i.areas itself (scanned i.core i.areas (refuses o))
      → Meets q i (finished i q) (telling i (untold o i.history.memory))
  unfolding telling untold alone
  untold_meets o h = alone_meets _ h

  again_meets : (w : Option HistoryReply) → i.history.memory ≡ w → Meets q i (finished i q) (telling i (again_when w i.history.files q))
  unfolding again_when telling scanned finished carried_out declined within refused_hold
  again_meets None k = rw (← k) (untold_meets NothingAgain (declines refl refl))
  again_meets (Some t) k =
      by_cond {A = Told} (λ x. Meets q i (finished i q) (telling i x)) (agrees t q) (λ e. carries_out Done refl refl)
      (λ e. rw (← k) (untold_meets NothingAgain (declines refl refl)))

  told_meets : (values : List ℕ) (ch : Change) (fs : Files) → Meets q i (finished i q) (telling i (told_from values ch fs q))
  unfolding told_from telling scanned finished carried_out
  told_meets values ch fs = carries_out Done refl refl

  history_meets : (files values : List ℕ) → Meets q i (finished i q) (telling i (history_of files values i.history q))
  unfolding history_of tell_of applied scanned declined within refused_hold
  history_meets files values =
      let P : Told → Type 0 = λ x. Meets q i (finished i q) (telling i x) in
      by_cond P (ltb q.command 128)
      (λ e. by_cond P (counts 0 q)
      (λ e. by_cond P (has_file files (file_of q))
      (λ e. by_cond P (acknowledges q) (λ e. told_meets values _ _) (λ e. again_meets i.history.memory refl))
      (λ e. untold_meets NotValid (declines refl refl)))
      (λ e. untold_meets WrongCount (declines refl refl)))
      (λ e. untold_meets Unknown (declines refl refl))

  initial_meets : Meets q i (finished i q) (initial_step i q)
  unfolding initial_step finished scanned carried_out declined within refused_hold
  initial_meets =
      by_cond (Meets q i (finished i q)) (counts 0 q) (λ e. carries_out Done refl refl)
      (λ e. alone_meets (scanned i.core i.areas (refuses WrongCount)) (declines refl refl))

  internal_meets : (c : Config) (lag : ℕ) → Meets q i (finished i q) (internal_step c i lag q)
  unfolding internal_step
  internal_meets c lag =
      by_cond (Meets q i (finished i q)) (eqb q.command 0x00) (λ e. initial_meets) (λ e. alone_meets _ (internal_kept i.core i.areas c lag q))

  step_meets : (c : Config) (lag : ℕ) → Meets q i (finished i q) (step_of c i lag q)
  unfolding step_of
  step_meets c lag =
      let P : Stepped → Type 0 = Meets q i (finished i q) in
      by_cond P (breaks i.core.hold q) (λ e. alone_meets _ (broken_off_kept i.core i.areas))
      (λ e. by_cond P (eqb q.function 0x04) (λ e. history_meets c.files c.values)
      (λ e. by_cond P (eqb q.function 0x20) (λ e. internal_meets c lag)
      (λ e. alone_meets _ (other-kept i.core i.areas c q))))

  -- a refusal carried no group
  anew_meets : (c : Config) {m : Made} → Meets q i made m → Meets q i made (started_anew c q m)
  unfolding areas_left carried_out
  anew_meets c {m = m} h =
      record {
        refuses = λ o e n.
            let z : eqb (answer_number m.answer) 0 ≡ false = rw e (or_left _ _ n) in
            let r = h.refuses o e n in
            record { inner = rw z r.inner; action = r.action; sent = r.sent; row = r.row };
      }

  served_meets : (c : Config) (lag : ℕ) → Meets q i made (served c i lag q)
  unfolding served
  served_meets c lag = anew_meets c (meets_made (step_meets c lag))

  broadcast_meets : (p : Step) → Plain i.core i.areas itself p → Meets q i (broadcast_made i) p
  unfolding broadcast_made quiet carried_out refused_inner refused_core refused_hold refused_write refused_broadcast declined within replies
  broadcast_meets p h =
      by_bool (eqb (number_of p.says.outcome) 0) (λ e. carries_out BroadcastDone (rw e) refl)
      (λ e. meets BroadcastRefused (rw e)
      (λ n.
      let s = (h.unmoved e).same in
      let core : p.core ≡ i.core = ap (λ (x : Step). x.core) s in
      let areas : p.areas ≡ i.areas = ap (λ (x : Step). x.areas) s in
      record { inner = rw (core, areas); action = refl; sent = refl; row = omega arith }))

  -- a stretch that is no frame for this unit is passed over
  passes : (o : Outcome) → refused_inner q o i ≡ i → declined o ≡ false → number_of o ≤ 16 → Meets q i made (quiet (Ended o) i)
  unfolding quiet replies
  passes o a b d = meets o refl (λ n. record { inner = sym a; action = refl; sent = sym b; row = d })

  framed_meets : (c : Config) (lag : ℕ) → Meets q i made (framed c i lag q)
  unfolding framed refused_inner refused_core refused_hold refused_write refused_broadcast declined within
  framed_meets c lag =
      let P : Made → Type 0 = Meets q i made in
      by_cond P (eqb (unit_of q.address) c.unit) (λ e. served_meets c lag)
      (λ e. by_cond P (eqb (unit_of q.address) broadcast_unit) (λ e. meets_made (broadcast_meets _ (broadcast_plain i.core i.areas c lag q)))
      (λ e. passes OtherUnit refl refl (omega arith)))

-- a pair: what is refused of its EXECUTE, or of its WRITE, is refused of the stretch
refused-alike : (o : Outcome) (i : Inner) (q w : Request) → w.address ≡ q.address → refused_inner w o i ≡ refused_inner q o i
unfolding refused_inner refused_core refused_write
refused-alike o i q w e = rw e

-- an answered refusal drops the write that the WRITE left, as it drops an earlier one
refused-taken : (o : Outcome) (i : Inner) (q : Request) (v : Write) → declined o ≡ true → is_of v.master (master_of q.address) ≡ true
    → dropped i.core.write (master_of q.address) ≡ None
    → refused_inner q o (record { core = with_write i.core (Some v); areas = i.areas; history = i.history }) ≡ refused_inner q o i
unfolding refused_inner refused_core refused_write dropped
refused-taken o i q v d m e = rw (d, m, e)

pair-declined : {o : Outcome} → PairEnds o → carried_out o ≡ false → declined o ≡ true
unfolding declined within carried_out
pair-declined done e = sym e
pair-declined wrong_count e = refl
pair-declined not_valid e = refl
pair-declined (unwritten taken n) e = sym e
pair-declined (unwritten broke n) e = refl
pair-declined (unwritten held n) e = refl

module _ (c : Config) (i : Inner) (lag : ℕ) (t : List ℕ) where
  abbrev first : Request
  first = request_in (frame_in t) t

  pair_meets : (w x : Frame) (p : WholePair t w x) → Meets first i (judged c i lag t) (Pair w x)
  unfolding request_in frame_in
  pair_meets w x p =
      let a = pair-address t w x p in
      record {
        refuses = λ o e n. by_pair c i lag t w x p (λ m. m.answer ≡ Ended o → Refused first o i m)
            (λ own v d.
            let made = pair_made c i lag t w x p own in
            let f : Ended made.outcome ≡ Ended o = sym made.answer ∙ e in
            let z : made.outcome ≡ o = cc in
            let r = (framed_meets _ (request_in x (drop write_frame t)) c lag).refuses o d n in
            record {
              inner = r.inner ∙ ap (refused_inner (request_in x (drop write_frame t)) o) v.inner
                  ∙ refused-taken o i (request_in x (drop write_frame t)) v.write (pair-declined (rw z at made.ends) n) (rw (← p.address) v.owner) (rw (← p.address) v.earlier)
                  ∙ refused-alike o i first (request_in x (drop write_frame t)) a.1;
              action = r.action;
              sent = r.sent;
              row = r.row;
            })
            (λ unwrote d.
            let r = (framed_meets i (request_in w (take write_frame t)) c lag).refuses o d n in
            record { inner = r.inner ∙ refused-alike o i first (request_in w (take write_frame t)) a.0; action = r.action; sent = r.sent; row = r.row }) e;
      }

  pub judged_meets : Meets first i (judged c i lag t) (heard_of t)
  unfolding judged refused_inner refused_core refused_hold refused_write refused_broadcast declined within
  judged_meets =
      by_heard t (Meets first i (judged c i lag t)) (λ w. record { refuses = (framed_meets i first c lag).refuses })
      (record { refuses = (passes i first CheckWrong refl refl (omega arith)).refuses }) (pair_meets _ _)
      (record { refuses = (passes i first NotWhole refl refl (omega arith)).refuses })
