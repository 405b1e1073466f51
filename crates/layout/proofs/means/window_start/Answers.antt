-- `layout::means::window_start` meets its contract. Assumes nothing.
use native.Mathlib.Omega.{arith}
use mathlib.Core.Path.{refl}
use Rattle.layout.proofs.means.window_start.Goals as goal

pub overflow_add-result : goal.overflow_add-result
overflow_add-result c = omega (arith, c.records_room.ensures.1, c.windows_to.ensures.1)

pub returns : goal.returns
returns c = record {
  value = rw (c.records_room.ensures.0, c.windows_to.ensures.0) refl;
  upper_bound = omega (arith, c.records_room.ensures.1, c.windows_to.ensures.1);
}
