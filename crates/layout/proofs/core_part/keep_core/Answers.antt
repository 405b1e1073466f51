-- `layout::core_part::keep_core` meets its contract. Assumes nothing.
use Rattle.std.specs.Prelude.{◌≡◌, length}
use native.Mathlib.Omega.{arith}
use Rattle.layout.proofs.KeepLaws.{core-kept}
use Rattle.layout.proofs.UnitLaws.{unit_figure}
use Rattle.layout.proofs.core_part.keep_core.Goals as goal

pub returns : goal.returns
returns c =
    let long : length c.args.unit.now ≡ unit_figure = omega (arith, c.told-unit) in
    core-kept c.args.core long
    c.keep_clock.ensures
    c.keep_hold.ensures
    c.keep_write.ensures
    c.keep_configure.ensures
    c.keep_error.ensures
    c.keep_broadcast.ensures
