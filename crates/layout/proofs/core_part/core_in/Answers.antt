-- `layout::core_part::core_in` meets its contract. Assumes nothing.
use Rattle.layout.specs.Numbers.{core_in}
use Rattle.layout.proofs.core_part.core_in.Goals as goal

pub returns : goal.returns
unfolding core_in
returns c =
    λ i. record {
      clock = c.clock_in.ensures i;
      hold = c.hold_kept.ensures i;
      write = c.write_kept.ensures i;
      configure = c.configure_in.ensures i;
      error = c.error_in.ensures i;
      broadcast = c.broadcast_in.ensures i;
    }
