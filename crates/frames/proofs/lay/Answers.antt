-- `frames::lay` meets its contract: head, data and the check behind them make the request.
-- Assumes nothing.
use mathlib.Core.Path.{◌≡◌, sym, ◌∙◌}
use Prim.Native.Nat.{◌+◌, ◌≤◌}
use native.Mathlib.Omega.{arith}
use lib.ListN.{length}
use Rattle.frames.proofs.LayLaws.{none-long, none-short, laid-long, laid-put, laid-number}
use Rattle.frames.proofs.lay.Goals as goal

pub returns-then-n : goal.returns-then-n
returns-then-n c = none-long _ _ (omega arith)

pub returns-then-buffer-end : goal.returns-then-buffer-end
returns-then-buffer-end c = none-short _ _ (omega arith) (omega arith)

pub returns-then-n-eq0 : goal.returns-then-n-eq0
returns-then-n-eq0 c =
    let s = c.args in
    let k : length s.body.now ≤ 128 = omega arith in
    let h : 8 + length s.body.now ≤ length s.buffer.now = omega arith in
    let long : 8 ≡ 6 + length s.body.now + 2 = omega arith in (
      long ∙ sym (laid-long s.buffer.now s.frame s.body.now k h),
      laid-number _ _ _ c.if-n-eq0.true h _ _ _ _ c.put_asked.ensures c.asked_number.ensures c.check_number.ensures c.put_word.ensures,
    )

pub returns : goal.returns
returns c =
    let s = c.args in
    let k : length s.body.now ≤ 128 = omega arith in
    let h : 8 + length s.body.now ≤ length s.buffer.now = omega arith in (
      sym (laid-long s.buffer.now s.frame s.body.now k h),
      laid-put _ _ _ k h _ _ _ c.put_asked.ensures c.copy.ensures c.put_check.ensures,
    )
