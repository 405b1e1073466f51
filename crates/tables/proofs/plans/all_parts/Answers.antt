-- `tables::plans::all_parts` meets its contract. The invariant: the parts of the first k plans are laid. Assumes nothing.
use Rattle.std.proofs.Common.{List, ℕ, sym, subst, arith}
use Rattle.tables.specs.Walked.{Passed}
use Rattle.tables.proofs.PlannedLaws.{parts_none, parts_leave, parts_more}
use Rattle.tables.proofs.plans.all_parts.Goals as goal

pub loop-k-init : goal.loop-k-init
loop-k-init c = parts_none _

pub parts_anew-requires : goal.parts_anew-requires
parts_anew-requires c =
    (omega arith, subst (λ (area : List ℕ). Passed area c.args.starts.now 15) (sym (parts_leave _ _ (omega arith) c.loop-k.invariant)) c.requires)

pub loop-k-preserved : goal.loop-k-preserved
loop-k-preserved c = parts_more _ _ (omega arith) c.loop-k.invariant c.parts_anew.ensures
