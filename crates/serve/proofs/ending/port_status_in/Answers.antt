-- `serve::ending::port_status_in` meets its contract. Assumes nothing.
use mathlib.Core.Path.{ap}
use Prim.Native.Nat.{◌+◌, ◌%◌}
use Rattle.serve.proofs.ending.port_status_in.Goals as goal

pub returns : goal.returns
returns c = ap (λ n. 0x54 + n % 4) c.mark_at.ensures
