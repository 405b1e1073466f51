-- 999 characters are room for every stretch of a line.
use Rattle.std.proofs.Common.{sym, ◌≤◌, arith, length-take}
use Rattle.lines.proofs.ReadLaws.{stretch-long}
use Rattle.bench.proofs.answers.answer.Goals as goal

pub slice_bounds-heard-end : goal.slice_bounds-heard-end
slice_bounds-heard-end c = let h = stretch-long _ _ (sym c.in-Stretch.ensures.0) in omega (arith, h.1)

pub slice_bounds-stretch-end-in-Stretch-2 : goal.slice_bounds-stretch-end-in-Stretch-2
slice_bounds-stretch-end-in-Stretch-2 c = let h = stretch-long _ _ (sym c.in-Stretch.ensures.0) in simp length-take (omega (arith, h.1))
