-- `lines::read_time` meets its contract. The invariant of its loop: what the digits that are left say after those that were read is what all say.
use mathlib.Core.Path.{◌≡◌, sym, ◌∙◌}
use Prim.Native.Nat.{◌+◌, ◌-◌, ◌*◌}
use lib.ListN.{get_or}
use native.Mathlib.Omega.{arith}
use borrow.Author.Tests.{eqb-true, eqb-false}
use Rattle.lines.proofs.ReadLaws.{answer-other, answer-time, time-none, time-some, time-low, time-high, time-more, time_over, time_end}
use Rattle.lines.proofs.read_time.Goals as goal

pub returns-then-is_empty : goal.returns-then-is_empty
returns-then-is_empty c = answer-other _ (time-none _ (eqb-true _ _ (sym c.is_empty.ensures ∙ c.if-is_empty.true)))

pub loop-digit-init : goal.loop-digit-init
loop-digit-init c = (sym (time-some _ (eqb-false _ _ (sym c.is_empty.ensures ∙ c.if-is_empty.false))), omega arith)

pub returns-in_default : goal.returns-in_default
returns-in_default c = let l = c.loop-digit in answer-other _ (sym l.invariant.0 ∙ time-low _ l.digit-index _ (omega arith) (omega arith))

pub returns-in_default-2 : goal.returns-in_default-2
returns-in_default-2 c = let l = c.loop-digit in answer-other _ (sym l.invariant.0 ∙ time-high _ l.digit-index _ (omega arith) (omega arith) (omega arith))

pub returns-in_err-checked_mul : goal.returns-in_err-checked_mul
returns-in_err-checked_mul c =
    let l = c.loop-digit in
    let over = c.in_err-checked_mul.ensures in
    rw
    c.from_residual.ensures
    (answer-other
    _
    (sym l.invariant.0
    ∙ time-more _ l.digit-index _ (omega arith) (omega arith) (omega arith)
    ∙ time_over _ _ (omega arith)))

pub returns-in_err-time : goal.returns-in_err-time
returns-in_err-time c =
    let l = c.loop-digit in
    let fits = c.in_ok-checked_mul.ensures in
    let over = c.in_err-time.ensures in
    rw
    c.from_residual-in_err-time.ensures
    (answer-other
    _
    (sym l.invariant.0
    ∙ time-more _ l.digit-index _ (omega arith) (omega arith) (omega arith)
    ∙ time_over _ _ (omega arith)))

pub loop-digit-preserved : goal.loop-digit-preserved
loop-digit-preserved c =
    let l = c.loop-digit in
    let tens = c.in_ok-checked_mul.ensures in
    let sum = c.in_ok-time.ensures in
    let more : c.in_ok-time.time ≡ l.time * 10 + (get_or c.args.digits.now l.digit-index 0 - 48) = omega arith in
    (rw more (sym (time-more _ l.digit-index _ (omega arith) (omega arith) (omega arith)) ∙ l.invariant.0), omega arith)

pub returns : goal.returns
returns c = let l = c.loop-digit in answer-time _ _ (sym l.invariant.0 ∙ time_end _ l.digit-index _ (omega arith) (omega arith))
