-- `frames::head_in` meets its contract. Assumes nothing.
use Rattle.std.proofs.Common.{arith}
use Rattle.std.proofs.lemmas.Grind.{common_steps}
use Rattle.model.specs.Frame.{frame_in}
use Rattle.model.proofs.FrameLaws.{whole_long}
use Rattle.frames.proofs.head_in.Goals as goal

pub overflow_cast-count : goal.overflow_cast-count
overflow_cast-count c = omega (arith, whole_long _ c.requires, c.word_at-count.ensures)

pub bounds-stretch-2 : goal.bounds-stretch-2
bounds-stretch-2 c = omega (arith, whole_long _ c.requires)

pub bounds-stretch-3 : goal.bounds-stretch-3
bounds-stretch-3 c = omega (arith, whole_long _ c.requires)

pub returns : goal.returns
unfolding frame_in
returns c = grind (arith, common_steps)
