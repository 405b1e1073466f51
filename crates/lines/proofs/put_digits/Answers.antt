-- `lines::put_digits` meets its contract. The invariant of its loop: the digits of left, and those in buf from i on, are the digits of n.
use mathlib.Core.Path.{refl}
use Prim.Native.Nat.{◌<◌, ◌-◌}
use native.Mathlib.Omega.{arith}
use lib.ListN.{length-set}
use Rattle.lines.proofs.ShownLaws.{digits-none, digits-room, digits_more, digits_last}
use Rattle.lines.proofs.put_digits.Goals as goal

pub loop-i-init : goal.loop-i-init
loop-i-init c = (digits-none _ c.args.buf.now 20 (omega arith), omega arith)

pub loop-i-preserved : goal.loop-i-preserved
loop-i-preserved c =
    let l = c.loop-i in
    let more : 9 < l.left = omega arith in
    (digits_more _ _ l.i l.buf l.invariant.0 (l.i - 1) _ (omega arith) (omega arith) more refl, simp length-set l.invariant.1)

pub returns-then-left-eq0 : goal.returns-then-left-eq0
returns-then-left-eq0 c =
    let l = c.loop-i in
    let last : l.left < 10 = omega arith in
    (digits_last _ _ l.i l.buf l.invariant.0 (l.i - 1) _ (omega arith) (omega arith) last (omega arith), omega arith)

pub unreachable-requires : goal.unreachable-requires
unreachable-requires c = let l = c.loop-i in let room : 0 < l.i = digits-room _ _ _ _ l.invariant.0 l.invariant.1 (omega arith) in omega arith
