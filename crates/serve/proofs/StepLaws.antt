-- A frame for this unit by its function: the step that it comes to, and how what a function hands back makes that step.
-- Assumes nothing.
use mathlib.Core.Path.{◌≡◌, refl, sym, ◌∙◌}
use Prim.Native.Nat.{ℕ}
use mathlib.Core.List.{List}
use mathlib.Core.Bool.{true, false, not, ◌&&◌, cond}
use lib.Dec.{eqb}
use borrow.Author.Tests.{ne_eqb, not-true}
use Rattle.model.specs.Frame.{Request}
use Rattle.model.specs.Outcome.{number_of}
use Rattle.model.specs.Refusal.{declined}
use Rattle.model.specs.Config.{Config, within}
use Rattle.model.specs.State.{Areas, Files, Inner}
use Rattle.model.specs.Change.{stays, applied}
use Rattle.model.specs.Scan.{refuses}
use Rattle.model.specs.Inputs as points
use Rattle.model.specs.Means.{equipped_now}
use Rattle.model.specs.Calculations.{calculations_of}
use Rattle.model.specs.Plans.{planned_of}
use Rattle.model.specs.Control.{Controlled, control_of, breaks}
use Rattle.model.specs.History.{history_of}
use Rattle.model.specs.Step.{
  Step as StepOf,
  Made,
  with_hold,
  scanned,
  controlled,
  return_of,
  other_of,
  Stepped,
  alone,
  broken_off,
  telling,
  internal_step,
  step_of,
}
use Rattle.model.specs.declared.Outcome.TheVariants.{Unknown}
use Rattle.model.specs.declared.Hold.{Hold}
use Rattle.model.specs.declared.Core.{Core}
use Rattle.model.specs.declared.Mark.{Mark}
use Rattle.model.specs.declared.Port.{Port}
use Rattle.model.proofs.Conditions.{by_bool, and_left, and_right}
use Rattle.model.proofs.Refusing.{control_leaves}
use Rattle.layout.specs.Numbers.{Written}
use Rattle.control.specs.declared.Ran.{Ran}
use Rattle.control.specs.Runs.{ControlPromise}
use Rattle.layout.specs.Unit.{NumbersOnly, unit_in}
use Rattle.layout.specs.Records.{files_in}
use Rattle.layout.specs.Kept.{areas_in}
use Rattle.serve.proofs.KeptLaws.{still}
use Rattle.serve.specs.declared.step.Step.{Step}
use Rattle.serve.specs.Promises.{Tame, StepPromise, leaves, StepInPromise, MadeInPromise}
use Rattle.serve.specs.declared.Made.{Made as MadeOf}
use Rattle.serve.proofs.CommandLaws.{unshifted_numbers, numbers-kept}

-- ---- which step

module _ (c : Config) (i : Inner) (lag : ℕ) (q : Request) where
  pub step_broken : breaks i.core.hold q ≡ true → step_of c i lag q ≡ alone i (broken_off i.core i.areas)
  unfolding step_of
  step_broken b = rw b

  module _ (b : breaks i.core.hold q ≡ false) where
    pub step-told : q.function ≡ 0x04 → step_of c i lag q ≡ telling i (history_of c.files c.values i.history q)
    unfolding step_of
    step-told e = simp (b, e)

    pub step-inputs : q.function ≡ 0x00 → step_of c i lag q ≡ alone i (scanned i.core i.areas (points.inputs_of c.inputs i.areas.words q))
    unfolding step_of other_of
    step-inputs e = simp (b, e)

    pub step-calculations : q.function ≡ 0x03 → step_of c i lag q ≡ alone i (scanned i.core i.areas (calculations_of (equipped_now c i.areas.samples) i.areas.values q))
    unfolding step_of other_of
    step-calculations e = simp (b, e)

    pub step_tables : q.function ≡ 0x0A → step_of c i lag q ≡ alone i (scanned i.core i.areas (planned_of i.areas.plans i.areas.fixed i.areas.words q))
    unfolding step_of other_of
    step_tables e = simp (b, e)

    pub step_control : q.function ≡ 0x10 → step_of c i lag q ≡ alone i (controlled i.core i.areas (control_of c.outputs i.core.hold q))
    unfolding step_of other_of
    step_control e = simp (b, e)

    pub step_internal : q.function ≡ 0x20 → step_of c i lag q ≡ internal_step c i lag q
    unfolding step_of
    step_internal e = simp (b, e)

    pub step_return : q.function ≡ 0x28 → step_of c i lag q ≡ alone i (return_of i.core i.areas q)
    unfolding step_of other_of
    step_return e = simp (b, e)

    pub step_unknown : (q.function ≡ 0x00 → ⊥) → (q.function ≡ 0x03 → ⊥) → (q.function ≡ 0x04 → ⊥) → (q.function ≡ 0x0A → ⊥) → (q.function ≡ 0x10 → ⊥)
        → (q.function ≡ 0x20 → ⊥) → (q.function ≡ 0x28 → ⊥) → step_of c i lag q ≡ alone i (scanned i.core i.areas (refuses Unknown))
    unfolding step_of other_of
    step_unknown f₀ f₁ f₂ f₃ f₄ f₅ f₆ =
        simp (b, ne_eqb _ _ f₀, ne_eqb _ _ f₁, ne_eqb _ _ f₂, ne_eqb _ _ f₃, ne_eqb _ _ f₄, ne_eqb _ _ f₅, ne_eqb _ _ f₆)

-- ---- what a function hands back

module _ (i : Inner) {m : Stepped} {a : Areas} {p : Port} {ls entry exit : List ℕ} {r : Step} where
  pub acts_control : {x : Controlled} (f : Ran) → Tame x.says.outcome x.says.chars → m ≡ alone i (controlled i.core i.areas x) → ControlPromise entry exit x f
      → r ≡ record { outcome = f.outcome; action = f.action; count = f.count } → Written (with_hold i.core f.hold) i.history.memory p ls → a ≡ i.areas
      → StepPromise m a p ls entry exit r
  unfolding alone controlled
  acts_control f t z w e k y =
      rw (z, e, y)
      (record { ended = w.ended; acted = w.acted; counted = w.counted; written = w.written; kept = rw w.held at k; areas = refl; tame = t })

-- a request of 10h that is refused leaves the select, but for 11 and 12
run_leaves : (k : Core) (a : Areas) (table : List ℕ) (h : Hold) (q : Request) {entry exit : List ℕ} {r : Ran} → ControlPromise entry exit (control_of table h q) r
    → leaves r.outcome ≡ true → r.hold ≡ h
unfolding declined
run_leaves k a table h q w e =
    let n = number_of (control_of table h q).says.outcome in
    let l : leaves (control_of table h q).says.outcome ≡ true = rw w.ended at e in
    let most = and_left (within 6 15 n && not (eqb n 11)) (not (eqb n 12)) l in
    w.held
    ∙ control_leaves k a table h q (and_left (within 6 15 n) (not (eqb n 11)) most)
    (rw (not-true (eqb n 11) (and_right (within 6 15 n) (not (eqb n 11)) most), not-true (eqb n 12) (and_right (within 6 15 n && not (eqb n 11)) (not (eqb n 12)) l)) refl)

-- so what is kept of it is what it leaves
pub run_held : (k : Core) (a : Areas) (table : List ℕ) (h : Hold) (q : Request) {entry exit : List ℕ} {r : Ran} → ControlPromise entry exit (control_of table h q) r
    → cond (leaves r.outcome) h r.hold ≡ r.hold
run_held k a table h q {r = r} w = by_bool (leaves r.outcome) (λ e. rw e (sym (run_leaves k a table h q w e))) (λ e. rw e)

-- a step that leaves the files
pub acted-still : {c : Config} {m : Stepped} {a : Areas} {fs : Files} {p : Port} {ls area held entry exit : List ℕ} {r : Step} → m.change ≡ stays → StepPromise m a p ls entry exit r
    → StepInPromise c m a fs fs p ls area held area held entry exit r
unfolding applied
acted-still {c} {area = area} {held} e w = record { acts = w; files = rw e refl; changed = rw e (still c area held) }

pub alone-stays : (i : Inner) (p : StepOf) {m : Stepped} → m ≡ alone i p → m.change ≡ stays
unfolding alone
alone-stays i p e = rw e

-- what was made, and then only numbers written
pub makes_renumbered : (c : Config) (v w block : List ℕ) (ss : List (List ℕ)) {m : Made} {mark : Mark} {p : Port} {ls area held area' entry exit : List ℕ} {r : MadeOf} → NumbersOnly v w
    → MadeInPromise c m mark (areas_in v block ss) (files_in c area' (unit_in v).counts) p ls area held area' (unit_in v).counts entry exit r
    → MadeInPromise c m mark (areas_in w block ss) (files_in c area' (unit_in w).counts) p ls area held area' (unit_in w).counts entry exit r
makes_renumbered c v w block ss n h = rw ((unshifted_numbers v w n).counts, numbers-kept v block ss w n) h
