-- A pair: what its WRITE left, where it was taken, is what the EXECUTE finds, so that the two together make what the definition makes.
-- Assumes nothing.
use native.Mathlib.Omega.{arith}
use mathlib.Core.Path.{◌≡◌, refl, sym, ap, ap₂, ◌∙◌}
use Prim.Native.Nat.{ℕ, ◌+◌, ◌≤◌, ◌<◌}
use mathlib.Core.List.{List, [], ◌∷◌}
use mathlib.Core.Bool.{Bool, true, false}
use lib.ListN.{length, take, drop, length-drop}
use lib.Dec.{eqb}
use borrow.Author.Tests.{eq-eqb}
use Rattle.chars.specs.Put.{put}
use Rattle.chars.proofs.PutLaws.{put-none}
use Rattle.model.specs.Limits.{shortest_frame, write_frame, longest_reply}
use Rattle.model.specs.Frame.{master_of, heard_of, request_in}
use Rattle.model.specs.Sound.{WholePair}
use Rattle.model.specs.Outcome.{number_of, answer_number, damaged}
use Rattle.model.specs.Config.{Config}
use Rattle.model.specs.State.{Inner}
use Rattle.model.specs.Change.{Change}
use Rattle.model.specs.Clock.{clock_fits}
use Rattle.model.specs.Fits.{history_fits}
use Rattle.model.specs.Step.{Sent, answered, Made, framed, followed, judged}
use Rattle.model.specs.Port.{sent_chars, mark_after, port_heard}
use Rattle.model.specs.declared.Outcome.{Outcome}
use Rattle.model.specs.declared.Outcome.TheVariants.{WriteTaken}
use Rattle.model.specs.declared.Answer.TheVariants.{Ended}
use Rattle.model.specs.declared.Frame.{Frame}
use Rattle.model.specs.declared.Heard.TheVariants.{Whole}
use Rattle.model.specs.declared.Port.{Port}
use Rattle.model.proofs.PairLaws.{pair_front, pair-heard, heard-whole}
use Rattle.model.proofs.Pairs.{Taken, pair-taken}
use Rattle.layout.specs.Numbers.{core_in, memory_in, port_in}
use Rattle.layout.proofs.NumbersLaws.{written-readable}
use Rattle.layout.specs.Records.{files_in, packed, samples_laid}
use Rattle.layout.specs.Unit.{unit_in, config_in, numbers_in}
use Rattle.layout.specs.Kept.{areas_in, inner_of, inner_in, Owned, owned_of, samples_held}
use Rattle.history.specs.Change.{area_after, counts_after, changes_samples}
use Rattle.layout.proofs.RecordsLaws.{packed-serves}
use Rattle.history.proofs.ChangeLaws.{framed-change}
use Rattle.layout.proofs.MeansLaws.{samples-left}
use Rattle.serve.specs.declared.Made.{Made as MadeOf}
use Rattle.serve.specs.Promises.{Working, MadeInPromise, FramedPromise, AheadPromise, JudgedPromise}
use Rattle.serve.proofs.KeptLaws.{steady_then}
use Rattle.serve.proofs.StretchLaws.{judged-frame}

-- ---- the port by the parts of a stretch

heard-part : (p : Port) (t s : List ℕ) (o : Outcome) → 0 < length t → 0 < length s → port_heard p t o ≡ port_heard p s o
unfolding port_heard
heard-part p [] s o h k = absurd (omega arith)
heard-part p (x ∷ t) [] o h k = absurd (omega arith)
heard-part p (x ∷ t) (y ∷ s) o h k = refl

-- a WRITE that is taken leaves the mark
heard_twice : (p : Port) (t u s : List ℕ) (o : Outcome) → 0 < length t → 0 < length u → 0 < length s
    → port_heard (port_heard p t WriteTaken) u o ≡ port_heard p s o
unfolding port_heard mark_after answered damaged
heard_twice p [] u s o h k l = absurd (omega arith)
heard_twice p (x ∷ t) [] s o h k l = absurd (omega arith)
heard_twice p (x ∷ t) (y ∷ u) [] o h k l = absurd (omega arith)
heard_twice p (x ∷ t) (y ∷ u) (z ∷ s) o h k l = refl

marked-taken : (p : Port) (t : List ℕ) → (port_heard p t WriteTaken).mark ≡ p.mark
unfolding port_heard mark_after answered damaged
marked-taken p [] = refl
marked-taken p (x ∷ t) = refl

-- ---- the WRITE

pub pair_reach : (s : List ℕ) (w x : Frame) → WholePair s w x → write_frame ≤ length s
pair_reach s w x p = omega (arith, p.execute.short, length-drop write_frame s)

module _ (lag : ℕ) (s : List ℕ) (w x : Frame) (p : WholePair s w x) (o m : Owned) {entry mid : List ℕ} (r : MadeOf)
    (work : Working o.unit o.area) (first : FramedPromise lag w (take write_frame s) o m entry mid r) where
  abbrev c : Config
  c = config_in o.unit

  abbrev i : Inner
  i = inner_in o.unit o.block o.area

  abbrev wrote : Made
  wrote = framed c i lag (request_in w (take write_frame s))

  made : MadeInPromise c wrote (port_in (numbers_in o.unit)).mark (areas_in m.unit m.block (samples_held o.unit o.area)) (files_in c m.area (unit_in m.unit).counts)
      (port_heard (port_in (numbers_in o.unit)) (take write_frame s) r.outcome) (numbers_in m.unit)
      o.area (unit_in o.unit).counts m.area (unit_in m.unit).counts entry mid r
  made = first.0 work.ready work.numbers

  outcome-shown : answer_number wrote.answer ≡ number_of r.outcome
  outcome-shown = sym (ap answer_number made.makes.answered)

  front_long : 0 < length (take write_frame s)
  front_long = omega (arith, pair_front s w x p)

  behind-long : 0 < length (drop write_frame s)
  behind-long = omega (arith, p.execute.short)

  all-long : 0 < length s
  all-long = omega (arith, behind-long, length-drop write_frame s)

  -- refused, it is the one answer
  pair-refused : eqb (answer_number wrote.answer) 5 ≡ false → JudgedPromise lag s o m entry mid r
  unfolding judged followed
  pair-refused n = (
    λ ready numbers.
        rw (pair-heard s w x p, n, ← (heard-part (port_in (numbers_in o.unit)) (take write_frame s) s r.outcome front_long all-long))
        (first.0 ready numbers),
    first.1,
  )

  -- taken, it leaves all but the write as it was
  module _ (five : number_of r.outcome ≡ 5) where
    took : Taken i (master_of w.address) wrote
    took = (pair-taken c i lag s w x p (outcome-shown ∙ five)).1

    outcome-taken : r.outcome ≡ WriteTaken
    outcome-taken = let e : Ended r.outcome ≡ Ended WriteTaken = made.makes.answered ∙ took.answer in cc

    port-then : port_in (numbers_in m.unit) ≡ port_heard (port_in (numbers_in o.unit)) (take write_frame s) WriteTaken
    port-then = made.makes.kept.means.port ∙ ap (port_heard (port_in (numbers_in o.unit)) (take write_frame s)) outcome-taken

    calm : changes_samples wrote.change ≡ false
    unfolding changes_samples
    calm = framed-change c (λ (ch : Change). changes_samples ch ≡ false) refl (λ f at n. refl) i lag (request_in w (take write_frame s))

    inner-then : inner_of (core_in (numbers_in m.unit)) (areas_in m.unit m.block (samples_laid (packed c) m.area (unit_in m.unit).taken)) (memory_in (numbers_in m.unit)) (files_in c m.area (unit_in m.unit).counts) (unit_in m.unit).dropped ≡ wrote.inner
    inner-then =
        let k = made.makes.kept.means in
        let d : (unit_in m.unit).dropped ≡ wrote.inner.history.dropped = first.1.dropped ∙ sym (ap (λ (z : Inner). z.history.dropped) took.inner) in
        let ss : samples_laid (packed c) m.area (unit_in m.unit).taken ≡ samples_held o.unit o.area =
        ap (samples_laid (packed c) m.area) first.1.taken ∙ samples-left (packed-serves c) o.area m.area (unit_in o.unit).taken (made.changed.behind calm) in
        let areas = ap (areas_in m.unit m.block) ss ∙ made.makes.areas in
        λ j. inner_of (k.core j) (areas j) (k.memory j) (made.makes.files j) (d j)

    inner_as : inner_in m.unit m.block m.area ≡ wrote.inner
    inner_as = rw first.1.steady.config inner-then

    buffer_then : mid ≡ entry
    unfolding sent_chars
    buffer_then = made.makes.written ∙ ap (λ (z : Sent). put entry 0 (sent_chars (port_in (numbers_in o.unit)).mark z)) took.sent ∙ put-none entry 0

    area-then : m.area ≡ o.area
    unfolding area_after
    area-then = made.changed.moved ∙ ap (λ (z : Change). area_after (packed c) z (unit_in o.unit).counts o.area) took.change

    counts-then : (unit_in m.unit).counts ≡ (unit_in o.unit).counts
    unfolding counts_after
    counts-then = made.changed.counted ∙ ap (λ (z : Change). counts_after z (unit_in o.unit).counts) took.change

    works_then : Working m.unit m.area
    works_then =
        let e = inner_as ∙ took.inner in
        record {
          ready = record {
            valid = rw first.1.steady.config work.ready.valid;
            fits = ap₂ history_fits first.1.steady.config (ap (λ (z : Inner). z.history) e) ∙ work.ready.fits;
            room = rw (first.1.steady.config, area-then) work.ready.room;
          };
          numbers = written-readable made.makes.kept;
          clock = ap (λ (z : Inner). clock_fits z.core.clock) e ∙ work.clock;
        }

    -- and the EXECUTE comes after it
    pair-after : (y : Owned) {exit : List ℕ} (z : MadeOf) → FramedPromise lag x (drop write_frame s) m y mid exit z → JudgedPromise lag s o y entry exit z
    unfolding judged followed
    pair-after y z g =
        let second = rw (first.1.steady.config, inner-then, port-then, heard_twice (port_in (numbers_in o.unit)) (take write_frame s) (drop write_frame s) s z.outcome front_long behind-long all-long, marked-taken (port_in (numbers_in o.unit)) (take write_frame s), counts-then, area-then, first.1.taken, buffer_then) at (g.0 works_then.ready works_then.numbers) in (
          λ ready numbers. rw (pair-heard s w x p, eq-eqb (answer_number wrote.answer) 5 (outcome-shown ∙ five)) second,
          steady_then _ _ _ first.1 g.1,
        )

-- ---- what is left to be served

-- one frame, with the head f and heard as t, by a unit that is left as y: what is made of it is made of the stretch
pub record Onward (lag : ℕ) (s : List ℕ) (x y : Owned) (entry t : List ℕ) (f : Frame) : Type 0 where
  pub clock : clock_fits (core_in (numbers_in y.unit)).clock ≡ true
  pub long : length t ≡ shortest_frame + f.count
  pub makes : (z : Owned) {exit : List ℕ} (r : MadeOf) → FramedPromise lag f t y z entry exit r → JudgedPromise lag s x z entry exit r

pub onward_whole : (lag : ℕ) (s : List ℕ) (f : Frame) (x : Owned) (entry : List ℕ) → Working x.unit x.area → heard_of s ≡ Whole f → Onward lag s x x entry s f
onward_whole lag s f x entry work h =
    record {
      clock = work.clock;
      long = (heard-whole s f h).count;
      makes = λ z r g. (λ ready numbers. judged-frame _ _ lag s _ (port_in (numbers_in x.unit)) f h (g.0 ready numbers), g.1);
    }

module _ (lag : ℕ) (s : List ℕ) (w x : Frame) (p : WholePair s w x) (u v block area entry : List ℕ) {b : Bool} (work : Working u area) (l : longest_reply ≤ length entry)
    (a : AheadPromise w (take write_frame s) u v b) where
  pub onward_taken : b ≡ true → Onward lag s (owned_of u block area) (owned_of v block area) entry (drop write_frame s) x
  onward_taken e =
      let first = a.taken e lag block area entry l in
      record {
        clock = (works_then lag s w x p (owned_of u block area) (owned_of v block area) _ work first refl).clock;
        long = p.execute.count;
        makes = λ z r g. pair-after lag s w x p (owned_of u block area) (owned_of v block area) _ work first refl z r g;
      }

  pub onward_refused : b ≡ false → Onward lag s (owned_of u block area) (owned_of v block area) entry (take write_frame s) w
  onward_refused e =
      rw (a.same e)
      (record {
        clock = work.clock;
        long = p.write.count;
        makes = λ z r g. pair-refused lag s w x p (owned_of u block area) z r work g (a.refused e lag block area);
      })
