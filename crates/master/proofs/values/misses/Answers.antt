-- `master::values::misses` meets its contract: those of the first numbers that are missing stand in front, and each was judged.
-- Assumes nothing.
use mathlib.Core.Path.{◌≡◌}
use mathlib.Core.Bool.{false}
use lib.ListN.{get_or}
use native.Mathlib.Omega.{arith}
use Rattle.model.specs.Believe.{stands}
use Rattle.master.proofs.SameLaws.{bool_byte-most, every-start, every_more, every-whole}
use Rattle.master.proofs.ValuesLaws.{ordered_none, ordered_more, ordered_whole}
use Rattle.master.proofs.values.misses.Goals as goal

pub loop-n-init : goal.loop-n-init
loop-n-init c = record { told = ordered_none c.args.ns.now c.args.ys.now; all = every-start _ c.args.ns.now }

pub overflow_add-at : goal.overflow_add-at
overflow_add-at c = omega (arith, c.from-at.ensures, bool_byte-most (get_or c.args.marks.now c.from.result false), c.loop-n.invariant.told.most)

pub loop-n-preserved : goal.loop-n-preserved
loop-n-preserved c =
    let known : get_or c.args.marks.now c.from.result false ≡ stands (get_or c.args.ns.now c.loop-n.n-index 0) c.args.ys.now =
    rw c.from.ensures (c.requires.each _ (omega (arith, c.type_inv.ns c.loop-n.n-index))) in
    record {
      told = rw (c.char_at.ensures, c.from-at.ensures) (ordered_more c.args.ns.now c.args.ys.now c.loop-n.n-index c.loop-n-test.true _ _ _ known c.loop-n.invariant.told);
      all = every_more _ c.args.ns.now c.loop-n.n-index _ _ c.loop-n-test.true c.loop-n.invariant.all (rw known);
    }

pub returns : goal.returns
returns c =
    rw (
      ordered_whole c.args.ns.now c.args.ys.now c.loop-n.n-index _ _ (omega arith) c.loop-n.invariant.told,
      every-whole _ c.args.ns.now c.loop-n.n-index _ (omega arith) c.loop-n.invariant.all,
    )
