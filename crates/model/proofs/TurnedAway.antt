-- Outcomes 17 and 18 change nothing, send nothing and operate nothing; and no working unit gives them. Assumes nothing.
use Prim.Native.Nat.{◌≤◌}
use mathlib.Core.Path.{◌≡◌, refl, sym, ap, ◌∙◌}
use mathlib.Core.Bool.{true, false, ◌||◌}
use lib.Dec.{eqb}
use native.Mathlib.Omega.{arith}
use borrow.Author.Tests.{eqb-true}
use Rattle.model.specs.Outcome.{number_of, carried_out}
use Rattle.model.specs.Config.{Config}
use Rattle.model.specs.State.{Inner, State}
use Rattle.model.specs.Fits.{fits}
use Rattle.model.specs.Event.{Event, stretch, elapsed, local}
use Rattle.model.specs.Step.{Made, make_of}
use Rattle.model.specs.Run.{short, Result, turned_away, shows, moves, decided, result_of, next_of}
use Rattle.model.specs.Refusal.{arrives, succeeded}
use Rattle.model.specs.declared.Outcome.{Outcome}
use Rattle.model.specs.declared.Outcome.TheVariants.{NotConfigured, BufferShort}
use Rattle.model.specs.declared.Answer.TheVariants.{Ended}
use Rattle.model.proofs.Conditions.{by_bool, or_cases}
use Rattle.model.proofs.RefusedStretch.{judged_meets}
use Rattle.model.proofs.LocalRefusals.{local_meets}

-- ---- the three ways of an event

module _ {A : Type 0} (c : Config) (s : State) (e : Event) (away : Outcome → A) (made : Made → A) where
  pub decided-short : short e ≡ true → decided c s e away made ≡ away BufferShort
  unfolding decided
  decided-short a = rw a

  pub decided_unfit : short e ≡ false → fits c s ≡ false → decided c s e away made ≡ away NotConfigured
  unfolding decided
  decided_unfit a b = rw (a, b)

  pub decided_works : short e ≡ false → fits c s ≡ true → decided c s e away made ≡ made (make_of c s.inner e)
  unfolding decided
  decided_works a b = rw (a, b)

module _ (c : Config) (s : State) (e : Event) where
  -- a short buffer: 18
  pub short_away : short e ≡ true → (result_of c s e ≡ turned_away BufferShort) × (next_of c s e ≡ s)
  unfolding result_of next_of
  short_away a = (decided-short c s e _ _ a, decided-short c s e _ _ a)

  -- no valid configuration, or no state that a unit could have left: 17
  pub unfit_away : short e ≡ false → fits c s ≡ false → (result_of c s e ≡ turned_away NotConfigured) × (next_of c s e ≡ s)
  unfolding result_of next_of
  unfit_away a b = (decided_unfit c s e _ _ a b, decided_unfit c s e _ _ a b)

  -- else the unit works
  pub works : short e ≡ false → fits c s ≡ true
      → (result_of c s e ≡ shows s.port (make_of c s.inner e)) × (next_of c s e ≡ moves s.port e (make_of c s.inner e))
  unfolding result_of next_of
  works a b = (decided_works c s e _ _ a b, decided_works c s e _ _ a b)

-- ---- a working unit gives neither

carried_row : (o : Outcome) → carried_out o ≡ true → number_of o ≤ 16
unfolding carried_out
carried_row o e =
    or_cases (eqb (number_of o) 0) (eqb (number_of o) 4 || eqb (number_of o) 5) e (λ a. omega (arith, eqb-true (number_of o) 0 a))
    (λ b. or_cases (eqb (number_of o) 4) (eqb (number_of o) 5) b (λ a. omega (arith, eqb-true (number_of o) 4 a)) (λ a. omega (arith, eqb-true (number_of o) 5 a)))

module _ (c : Config) (i : Inner) where
  local-row : (e : Event) (o : Outcome) → arrives e ≡ false → (make_of c i e).answer ≡ Ended o → carried_out o ≡ false → number_of o ≤ 16
  unfolding succeeded
  local-row e o b a n = rw a at ((local_meets c i e b).refuses (rw a n)).row

  refused-row : (e : Event) (o : Outcome) → (make_of c i e).answer ≡ Ended o → carried_out o ≡ false → number_of o ≤ 16
  unfolding arrives make_of
  refused-row (stretch t) o a n = ((judged_meets c i t.lag t.chars).refuses o a n).row
  refused-row (elapsed ms) o a n = local-row (elapsed ms) o refl a n
  refused-row (local e) o a n = local-row (local e) o refl a n

  pub made_row : (e : Event) (o : Outcome) → (make_of c i e).answer ≡ Ended o → number_of o ≤ 16
  made_row e o a = by_bool (carried_out o) (carried_row o) (refused-row e o a)

-- 17 and 18 are the outcomes from 17 on
pub turned_away_lem : (c : Config) (s : State) (e : Event) (o : Outcome) → 17 ≤ number_of o → (result_of c s e).answer ≡ Ended o
    → (result_of c s e ≡ turned_away o) × (next_of c s e ≡ s)
unfolding turned_away shows
turned_away_lem c s e o h a =
    by_bool (short e) (λ b. as_turned BufferShort (short_away c s e b))
    (λ b. by_bool (fits c s) (λ d. absurd (omega (arith, made_row c s.inner e o (sym (ap (λ (r : Result). r.answer) (works c s e b d).0) ∙ a))))
    (λ d. as_turned NotConfigured (unfit_away c s e b d)))
  where
    as_turned : (x : Outcome) → (result_of c s e ≡ turned_away x) × (next_of c s e ≡ s) → (result_of c s e ≡ turned_away o) × (next_of c s e ≡ s)
    as_turned x r =
        let f : Ended x ≡ Ended o = sym (ap (λ (r : Result). r.answer) r.0) ∙ a in
        let g : x ≡ o = cc in
        rw g at r
