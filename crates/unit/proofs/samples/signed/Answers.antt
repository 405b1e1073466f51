-- `unit::samples::signed` meets its contract. Assumes nothing.
use Rattle.std.proofs.Common.{arith}
use mir.ValLaws.{of_z-to_z}
use Rattle.unit.proofs.MeanLaws.{signed_is}
use Rattle.unit.proofs.samples.signed.Goals as goal

pub returns : goal.returns
returns c = grind (arith, of_z-to_z, signed_is)
