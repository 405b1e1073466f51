-- `lines::digits` meets its contract: one computed test of all sixteen.
use mathlib.Core.Path.{refl}
use Rattle.chars.specs.Gather.{every}
use Rattle.lines.specs.Line.{hex_digit}
use Rattle.lines.proofs.digits.Goals as goal

pub returns : goal.returns
unfolding every hex_digit
returns c = refl
