-- `layout::status::error_in` meets its contract. Assumes nothing.
use mathlib.Core.Path.{ap}
use Rattle.std.specs.Prelude.{ℕ, eqb}
use Rattle.layout.specs.Numbers.{core_in}
use Rattle.layout.proofs.status.error_in.Goals as goal

pub returns : goal.returns
unfolding core_in
returns c = ap (λ (n : ℕ). eqb n 1) c.kept_of.ensures
