-- A broadcast: the step that it comes to, and what is made of it; and what is made where nothing is sent. Assumes nothing.
use Rattle.std.specs.Prelude.{None, Option}
use mathlib.Core.Path.{◌≡◌, refl, sym, ap, ◌∙◌}
use native.Mathlib.Omega.{arith}
use Prim.Native.Nat.{ℕ}
use mathlib.Core.List.{List}
use mathlib.Core.Bool.{true, cond}
use lib.Dec.{eqb}
use Rattle.chars.proofs.PutLaws.{put-none}
use Rattle.model.specs.Outcome.{number_of}
use Rattle.model.specs.State.{Areas, Files, Inner}
use Rattle.model.specs.Scan.{refuses}
use Rattle.model.specs.Step.{Step as StepOf, with_broadcast, scanned, quiet, alone, broadcast_made}
use Rattle.model.specs.Port.{sent_chars}
use Rattle.model.specs.declared.Outcome.{Outcome}
use Rattle.model.specs.declared.Outcome.TheVariants.{Unknown, BroadcastDone, BroadcastRefused}
use Rattle.model.specs.declared.Answer.TheVariants.{Ended}
use Rattle.model.specs.declared.Core.{Core}
use Rattle.model.specs.declared.HistoryReply.{HistoryReply}
use Rattle.model.specs.declared.Mark.{Mark}
use Rattle.model.specs.declared.Port.{Port}
use Rattle.layout.specs.Numbers.{Written}
use Rattle.layout.specs.Kept.{inner_of}
use Rattle.serve.specs.declared.step.Step.{Step}
use Rattle.serve.specs.declared.Made.{Made as MadeOf}
use Rattle.serve.specs.Promises.{StepPromise, StirPromise, MadePromise}

-- what is told of a step with its data is told without them
pub stirs : (i : Inner) {x : StepOf} {a : Areas} {p : Port} {ls entry exit : List ℕ} {r : Step}
    → StepPromise (alone i x) a p ls entry exit r → StirPromise x a i.history.memory p ls r.outcome
unfolding alone
stirs i s = record { ended = s.ended; kept = s.kept; areas = s.areas }

pub stirs_refused : (k : Core) (a : Areas) {w : Option HistoryReply} {p : Port} {ls : List ℕ} {x : StepOf} {r : Step}
    → x ≡ scanned k a (refuses Unknown) → r ≡ record { outcome = Unknown; action = None; count = 0 } → Written k w p ls → StirPromise x a w p ls r.outcome
unfolding scanned
stirs_refused k a z e n = rw (z, e) (record { ended = refl; kept = n; areas = refl })

pub makes_broadcast : (k : Core) (a : Areas) (w : Option HistoryReply) (p : Port) (fs : Files) (ns : List ℕ) (mark : Mark) (entry : List ℕ) {x : StepOf} {b d : Areas} {ks ls : List ℕ} {n : Outcome} {r : MadeOf} (o : Outcome)
    → StirPromise x b w p ks n → d ≡ b → o ≡ cond (eqb (number_of n) 0) BroadcastDone BroadcastRefused
    → r ≡ record { outcome = o; action = None; sent = 0 } → Written (with_broadcast x.core true) w p ls
    → MadePromise (broadcast_made (inner_of k a w fs ns) x) mark d fs p ls entry entry r
unfolding broadcast_made quiet sent_chars
makes_broadcast k a w p fs ns mark entry o s y z e l =
    rw e
    (record {
      answered = ap Ended (z ∙ rw s.ended);
      acted = refl;
      counted = refl;
      inside = omega arith;
      small = omega arith;
      written = sym (put-none entry 0);
      kept = l;
      areas = y ∙ s.areas;
      files = refl;
    })

pub makes-quiet : (i : Inner) (mark : Mark) (entry : List ℕ) {p : Port} {ls : List ℕ} {r : MadeOf} (o : Outcome)
    → r ≡ record { outcome = o; action = None; sent = 0 } → Written i.core i.history.memory p ls
    → MadePromise (quiet (Ended o) i) mark i.areas i.history.files p ls entry entry r
unfolding quiet sent_chars
makes-quiet i mark entry o e k =
    rw e (record { answered = refl; acted = refl; counted = refl; inside = omega arith; small = omega arith; written = sym (put-none entry 0); kept = k; areas = refl; files = refl })
