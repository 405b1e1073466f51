-- `checkword::folded` meets its contract. The loop's invariant: `Read` of the first n characters and of k eights behind them.
-- Assumes nothing.
use Prim.Native.Nat.{◌+◌, ◌-◌, ◌*◌, ◌%◌, ◌≤◌}
use native.Mathlib.Omega.{arith}
use lib.ListN.{length}
use Rattle.checkword.proofs.Eights.{read_is, read_head, read_eight, read_end}
use Rattle.checkword.proofs.folded.Goals as goal

pub loop-k-init : goal.loop-k-init
loop-k-init c =
    let a = c.args in
    let s = a.s.now in
    let n = (length s - 1) % 8 + 1 in
    let h : n ≤ 8 = omega arith in
    let k : n ≤ length s = omega arith in
    read_is (omega arith) (read_head a.start s n _ _ h k c.head.ensures c.started-v.ensures)

pub loop-k-preserved : goal.loop-k-preserved
loop-k-preserved c =
    let l = c.loop-k in
    let a = c.args in
    let i = (length a.s.now - 1) % 8 + 1 + 8 * l.k in
    let h : i + 8 ≤ length a.s.now = omega arith in
    read_is (omega arith) (read_eight a.start a.s.now i l.v l.a _ _ h l.invariant c.turn.ensures c.eight-w.ensures)

pub returns : goal.returns
returns c =
    let l = c.loop-k in
    let a = c.args in
    read_end a.start a.s.now _ _ _ _ (omega arith) l.invariant c.worked.ensures
