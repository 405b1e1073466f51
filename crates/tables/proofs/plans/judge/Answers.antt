-- `tables::plans::judge` meets its contract. The invariant: the first k tables are judged. Assumes nothing.
use Rattle.std.proofs.Common.{refl, ap, ◌∙◌, arith, length-set}
use Rattle.model.specs.Tables.{sendable}
use Rattle.tables.proofs.PlannedLaws.{able_none, able_more}
use Rattle.tables.proofs.plans.judge.Goals as goal

pub loop-k-init : goal.loop-k-init
loop-k-init c = (refl, able_none _ _ _)

pub loop-k-preserved : goal.loop-k-preserved
loop-k-preserved c =
    let g = c.loop-k.invariant in
    (simp length-set g.0, able_more g.1 (omega (arith, g.0)) (c.can_send.ensures ∙ ap (sendable _ _) c.named.ensures.value))
