-- `tables::plans::outcomes` meets its contract. The invariant: the outcomes of the first k plans are laid. Assumes nothing.
use Rattle.std.proofs.Common.{◌≡◌, ℕ, refl, subst, arith}
use Rattle.chars.proofs.GatherLaws.{up_none, gathered_none}
use Rattle.tables.proofs.PlannedLaws.{Outcomes, outcomes_more, outcomes_all}
use Rattle.tables.proofs.plans.outcomes.Goals as goal

pub loop-k-init : goal.loop-k-init
loop-k-init c = λ table a. rw up_none (gathered_none _ _ _)

pub loop-k-preserved : goal.loop-k-preserved
loop-k-preserved c = outcomes_more _ c.loop-k.invariant c.found.ensures (rw (← c.from.ensures) at c.outcome.ensures)

pub returns : goal.returns
returns c =
    let e : c.loop-k.k ≡ 16 = omega arith in
    let g = subst (λ (n : ℕ). Outcomes c.args.area.now c.args.able.now n _ c.loop-k.plans) e c.loop-k.invariant in
    λ table a. outcomes_all _ _ _ refl (g table a).chars
