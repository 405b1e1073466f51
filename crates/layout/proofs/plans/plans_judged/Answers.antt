-- `layout::plans::plans_judged` meets its contract: every outcome up to here is a plan's.
-- Assumes nothing.
use Rattle.std.specs.Prelude.{◌≡◌, ℕ}
use mathlib.Core.Path.{ap, ◌∙◌}
use native.Mathlib.Omega.{arith}
use Rattle.chars.specs.Put.{part}
use Rattle.chars.specs.Gather.{every}
use Rattle.model.specs.Plans.{planned, plans_fit}
use Rattle.layout.specs.Regions.{start_in}
use Rattle.layout.specs.Unit.{unit_sizes, unit_in}
use Rattle.layout.proofs.UnitLaws.{plan_at}
use Rattle.layout.proofs.JudgedLaws.{plans-start, plans-next}
use borrow.Author.Rules.{rules}
use Rattle.layout.proofs.plans.plans_judged.Goals as goal

pub loop-k-init : goal.loop-k-init
loop-k-init c = (search rules, plans-start _)

pub loop-k-preserved : goal.loop-k-preserved
unfolding start_in unit_sizes
loop-k-preserved c = (
  search rules,
  plans-next _ _ _ c.loop-k.invariant.1 c.is_planned-all.ensures (plan_at _ _ (omega arith)),
)

pub returns : goal.returns
unfolding plans_fit
returns c =
    let e : c.loop-k.k ≡ 16 = omega arith in
    c.loop-k.invariant.1 ∙ ap (λ (n : ℕ). every planned (part (unit_in c.args.unit.now).plans 0 n)) e
