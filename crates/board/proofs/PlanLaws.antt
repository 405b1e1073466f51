-- After every run of calls from C the plans are those of the tables: each scan by plan is the plain reading's, and `osturdam_replan` changes
-- nothing. Assumes nothing.
use mathlib.Core.Path.{◌≡◌, refl, sym, ap, ◌∙◌}
use Prim.Native.Nat.{ℕ}
use mathlib.Core.List.{List}
use lib.Dec.{lit<}
use Rattle.model.specs.Config.{Config}
use Rattle.model.specs.State.{State}
use Rattle.model.specs.Event.{Event}
use Rattle.model.specs.Tables.{table_area}
use Rattle.model.specs.Plans.{plans_of}
use Rattle.model.specs.Planned.{PlansHeld}
use Rattle.model.proofs.Planned.{run_plans}
use Rattle.layout.specs.Unit.{unit_sizes, plans_region, unit_from, unit_in, config_in, config_given, put_plans}
use Rattle.layout.specs.Kept.{Owned, areas_in, samples_held}
use Rattle.layout.proofs.UnitLaws.{put-own}
use Rattle.board.specs.Runs.{Numbered}
use Rattle.board.specs.Demand3.{Called}
use Rattle.board.proofs.RunLaws.{run_config}
use Rattle.board.proofs.Demand3.{state_is}

plans-own : (u : List ℕ) → put_plans u (unit_in u).plans ≡ u
unfolding unit_from unit_sizes
plans-own u = put-own u plans_region (lit< tt)

module _ (cs : List ℕ) {es : List Event} {xs : List Numbered} {y : Owned} (r : Called cs es xs y) where
  -- no plan is older than its table (Request 12.5)
  pub calls-plans : PlansHeld (config_given cs) (areas_in y.unit y.block (samples_held y.unit y.area))
  calls-plans = rw (ap (λ (s : State). s.inner.areas) (state_is cs r)) (run_plans (config_given cs) es)

  pub replan_same : put_plans y.unit (plans_of (config_in y.unit).inputs (table_area (unit_in y.unit).fixed)) ≡ y.unit
  replan_same =
      ap (put_plans y.unit)
      (ap (λ (c : Config). plans_of c.inputs (table_area (unit_in y.unit).fixed)) (run_config cs refl r.area r.fresh r.room r.runs)
      ∙ sym calls-plans.plans)
      ∙ plans-own y.unit
