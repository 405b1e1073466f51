-- `frames::fill` meets its contract: what is written over the head and behind the data makes the reply.
-- Assumes nothing.
use mathlib.Core.Path.{sym}
use Prim.Native.Nat.{◌+◌, ◌<◌, ◌≤◌}
use native.Mathlib.Omega.{arith}
use lib.ListN.{length}
use Rattle.frames.proofs.FillLaws.{untouched, framed-long, framed-put, framed-number}
use Rattle.frames.proofs.fill.Goals as goal

pub returns-then-buffer-end : goal.returns-then-buffer-end
returns-then-buffer-end c = let h : length c.args.buffer.now < 7 + c.args.head.count + 2 = omega arith in untouched _ _ h

pub returns-then-head-lt2 : goal.returns-then-head-lt2
returns-then-head-lt2 c =
    let s = c.args in
    let h : 7 + s.head.count + 2 ≤ length s.buffer.now = omega arith in
    rw c.from-end.ensures
    (sym (framed-long _ _ h), framed-number _ _ h _ c.put_head.ensures _ _ _ c.if-head-lt2.true c.reply_number-number.ensures c.check_number.ensures (rw c.from-end.ensures at c.put_word.ensures))

pub returns : goal.returns
returns c =
    let s = c.args in
    let h : 7 + s.head.count + 2 ≤ length s.buffer.now = omega arith in
    rw c.from-end.ensures
    (sym (framed-long _ _ h), framed-put _ _ h _ c.put_head.ensures _ (rw c.from-end.ensures at c.put_check.ensures))
