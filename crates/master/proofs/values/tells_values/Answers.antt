-- `master::values::tells_values` meets its contract: of the first i entries each was judged, and its place is kept. Assumes nothing.
use mathlib.Core.Path.{refl, sym, ◌∙◌}
use mathlib.Core.Path.{◌≡◌}
use Prim.Native.Nat.{◌<◌}
use lib.ListN.{length}
use native.Mathlib.Omega.{arith}
use borrow.Author.Tests.{eqb-true, eqb-false}
use Rattle.master.proofs.SameLaws.{every-none}
use Rattle.master.proofs.PlacedLaws.{placed_none, placed_most, placed_more, pieces_more}
use Rattle.master.proofs.ValuesLaws.{values-many, values_other, values_those}
use Rattle.master.proofs.values.tells_values.Goals as goal
use Rattle.master.proofs.values.tells_values.Goals.{then-ns-via-then-ns, then-ns-via-else-ns+then-entries-ns, then-ns-via-else-ns+else-entries-ns+then-not-is_empty}

pub returns-then-ns : goal.returns-then-ns
returns-then-ns c =
    elim c.then-ns.branch [
      | then-ns-via-then-ns w ↦ values-many _ _ w.if-ns.true
      | then-ns-via-else-ns+then-entries-ns w ↦ values_other _ _ (λ e. w.if-entries-ns.true (omega (arith, c.as_chunks.ensures.front_len)))
      | then-ns-via-else-ns+else-entries-ns+then-not-is_empty w ↦
          values_other _ _ (λ e. eqb-false _ _ (sym w.is_empty.ensures ∙ w.if-not-is_empty.true) (omega (arith, c.as_chunks.ensures.back_len)))
    ]

pub loop-i-init : goal.loop-i-init
loop-i-init c = record { told = every-none _; placed = placed_none c.args.ns.now _ refl }

pub agrees-requires : goal.agrees-requires
agrees-requires c = (omega arith, placed_most c.args.ns.now _ _ _ c.loop-i.invariant.placed (omega (arith, c.from-at.ensures, c.type_inv.ns c.loop-i.i)))

pub loop-i-preserved : goal.loop-i-preserved
loop-i-preserved c =
    let small : c.from-at.result < 256 = omega (arith, c.from-at.ensures, c.type_inv.ns c.loop-i.i) in
    record {
      told = pieces_more c.args.ns.now c.args.ys.now _ _ c.loop-i.i _ _ _ c.as_chunks.ensures.front (omega (arith, c.as_chunks.ensures.front_len)) c.loop-i.invariant.told c.from-at.ensures small c.loop-i.invariant.placed c.agrees.ensures;
      placed = placed_more c.args.ns.now _ c.loop-i.i _ c.loop-i.invariant.placed small c.from-at.ensures;
    }

pub returns : goal.returns
returns c =
    let n : c.loop-i.i ≡ length c.args.ns.now = omega arith in
    c.loop-i.invariant.told ∙ rw n (values_those _ _ c.if-ns.false (omega (arith, c.as_chunks.ensures.front_len, c.as_chunks.ensures.back_len, eqb-true _ _ (sym c.is_empty.ensures ∙ c.if-not-is_empty.false))))
