-- A frame for this unit, settled and sent: the reply laid round the data that stand in the buffer is the definition's. Assumes nothing.
use mathlib.Core.Path.{◌≡◌, refl, sym, ap, ◌∙◌}
use Prim.Native.Nat.{ℕ, zero, suc, ◌+◌, ◌≤◌}
use native.Mathlib.Omega.{arith}
use mathlib.Core.List.{List, [], ◌∷◌}
use mathlib.Core.Bool.{true, false}
use lib.ListN.{length}
use Rattle.chars.specs.Put.{put, part}
use Rattle.chars.proofs.PutLaws.{length-put, put-none, part-put}
use Rattle.model.specs.Limits.{longest_reply}
use Rattle.model.specs.Frame.{Request, reply_chars}
use Rattle.model.specs.Outcome.{sending_of}
use Rattle.model.specs.Config.{Config}
use Rattle.model.specs.State.{Areas, Files, Inner}
use Rattle.model.specs.Change.{applied, changed_by}
use Rattle.model.specs.Step.{Step as StepOf, Stepped, said, sent_as, answered, status_of, settled, step_of, finished, areas_left, served}
use Rattle.model.specs.Port.{port_status, sent_chars}
use Rattle.model.specs.declared.Outcome.{Outcome}
use Rattle.model.specs.declared.Answer.TheVariants.{Ended}
use Rattle.model.specs.declared.Core.{Core}
use Rattle.model.specs.declared.Mark.{Mark}
use Rattle.model.specs.declared.Reply.{Reply}
use Rattle.model.specs.declared.Port.{Port}
use Rattle.model.proofs.Conditions.{by_bool}
use Rattle.layout.specs.Numbers.{core_in, memory_in, port_in, put_port, Written}
use Rattle.layout.proofs.PlaceLaws.{port-written}
use Rattle.port.specs.Heard.{port_heard_by}
use Rattle.frames.specs.Framed.{framed_in}
use Rattle.frames.proofs.FillLaws.{framed_is, framed-long}
use Rattle.serve.specs.Ends.{head_of, replied_in, Replies}
use Rattle.serve.proofs.EndingLaws.{said_of, said_when, silent_when}
use Rattle.serve.specs.declared.step.Step.{Step}
use Rattle.serve.specs.declared.Made.{Made as MadeOf}
use Rattle.serve.specs.Promises.{MadePromise, Tame, StepPromise}

-- what is written over wholly does not matter
put_over : (xs : List ℕ) (n : ℕ) (ys zs : List ℕ) → n + length ys ≤ length zs → put (put xs n ys) 0 zs ≡ put xs 0 zs
unfolding put
put_over [] n ys zs h = refl
put_over (x ∷ xs) zero [] zs h = refl
put_over (x ∷ xs) zero (y ∷ ys) [] h = absurd (omega arith)
put_over (x ∷ xs) zero (y ∷ ys) (z ∷ zs) h = ap (λ (l : List ℕ). z ∷ l) (put_over xs zero ys zs (omega arith))
put_over (x ∷ xs) (suc n) ys [] h = absurd (omega arith)
put_over (x ∷ xs) (suc n) ys (z ∷ zs) h = ap (λ (l : List ℕ). z ∷ l) (put_over xs n ys zs (omega arith))

module _ (found : Core) (q : Request) (o : Outcome) (mark : Mark) (entry mid exit ys : List ℕ) (n : ℕ) (w : mid ≡ put entry 7 ys) (l : longest_reply ≤ length entry) (t : Tame o ys)
    (f : Replies mid exit o (head_of (status_of found) q.address q.function o (length ys) (port_status mark)) n) where
  abbrev head : Reply
  head = head_of (status_of found) q.address q.function o (length ys) (port_status mark)

  abbrev sent : List ℕ
  sent = sent_chars mark (sent_as (sending_of o) (said_of found q o ys))

  sent-said : answered (sending_of o) ≡ true → (n ≡ length sent) × (exit ≡ put entry 0 sent) × (n ≤ length entry) × (n ≤ longest_reply)
  unfolding sent_chars replied_in
  sent-said e =
      let g : 7 + length ys + 2 ≤ length mid = omega (arith, t.short, ap length w, length-put entry 7 ys) in
      let p : part mid 7 (length ys) ≡ ys = rw w (part-put entry 7 ys (length ys) refl (omega (arith, t.short))) in
      let z : framed_in mid head ≡ reply_chars head ys = framed_is mid head g ∙ ap (reply_chars head) p in
      let k : length (framed_in mid head) ≡ 7 + length ys + 2 = framed-long mid head g in
      let a : n ≡ length (framed_in mid head) = rw e at f.counted in
      let b : exit ≡ put mid 0 (framed_in mid head) = rw e at f.written in
      let u : sent_as (sending_of o) (said_of found q o ys) ≡ said (said_of found q o ys) = said_when (sending_of o) (said_of found q o ys) e in
      rw u (a ∙ ap length z, b ∙ ap (λ (x : List ℕ). put x 0 (framed_in mid head)) w ∙ put_over entry 7 ys (framed_in mid head) (omega arith) ∙ ap (put entry 0) z, omega (arith, t.short), omega (arith, t.short))

  sent-silent : answered (sending_of o) ≡ false → (n ≡ length sent) × (exit ≡ put entry 0 sent) × (n ≤ length entry) × (n ≤ longest_reply)
  unfolding sent_chars replied_in
  sent-silent e =
      let a : n ≡ 0 = rw e at f.counted in
      let b : exit ≡ put mid 0 [] = rw e at f.written in
      let y : ys ≡ [] = t.quiet e in
      let v : put entry 7 ys ≡ entry = rw y (put-none entry 7) in
      rw (silent_when (sending_of o) (said_of found q o ys) e)
      (a, b ∙ put-none mid 0 ∙ w ∙ v ∙ sym (put-none entry 0), omega arith, omega arith)

  sent_as_lem : (n ≡ length sent) × (exit ≡ put entry 0 sent) × (n ≤ length entry) × (n ≤ longest_reply)
  sent_as_lem = by_bool (answered (sending_of o)) sent-said sent-silent

-- the port by the outcome of what a function made
pub step-heard : (n : ℕ) {m : Stepped} {a : Areas} {p : Port} {ks ls entry exit : List ℕ} {r : Step} → StepPromise m a p ks entry exit r
    → ls ≡ put_port (port_heard_by (port_in ks) n r.outcome) ks → StepPromise m a (port_heard_by p n r.outcome) ls entry exit r
step-heard n z e =
    record {
      ended = z.ended;
      acted = z.acted;
      counted = z.counted;
      written = z.written;
      kept = rw z.kept.means.port at (port-written z.kept e);
      areas = z.areas;
      tame = z.tame;
    }

pub makes-served : (c : Config) (i : Inner) (lag : ℕ) (q : Request) (mark : Mark) {areas left : Areas} {fs : Files} {p : Port} {ks ls entry mid exit : List ℕ} {r : Step} {x : MadeOf} {n : ℕ}
    → longest_reply ≤ length entry → StepPromise (step_of c i lag q) areas p ks entry mid r → fs ≡ applied (step_of c i lag q).change i.history.files
    → Replies mid exit r.outcome (head_of (status_of i.core) q.address q.function r.outcome r.count (port_status mark)) n
    → Written (settled q r.outcome (core_in ks)) (memory_in ks) (port_in ks) ls
    → x ≡ record { outcome = r.outcome; action = r.action; sent = n } → left ≡ areas_left c q (Ended r.outcome) areas
    → MadePromise (served c i lag q) mark left fs p ls entry exit x
unfolding served finished changed_by
makes-served c i lag q mark {entry = entry} {mid} {exit} {r} {n = n} l a fl f k e b =
    let p : StepOf = (step_of c i lag q).step in
    let f' : Replies mid exit p.says.outcome (head_of (status_of i.core) q.address q.function p.says.outcome (length p.says.chars) (port_status mark)) n = rw (a.counted, a.ended) at f in
    let g = sent_as_lem i.core q p.says.outcome mark entry mid exit p.says.chars n a.written l a.tame f' in
    rw (e, a.ended)
    (record {
      answered = refl;
      acted = a.acted;
      counted = g.0;
      inside = g.2;
      small = g.3;
      written = g.1;
      kept = rw (a.ended, a.kept.means.core, a.kept.means.memory, a.kept.means.port) at k;
      areas = (rw a.ended at b) ∙ ap (areas_left c q (Ended p.says.outcome)) a.areas;
      files = fl;
    })
