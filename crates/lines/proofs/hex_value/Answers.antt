-- `lines::hex_value` meets its contract: its arms are the definition's branches.
use Rattle.std.proofs.Common.{arith}
use Rattle.std.proofs.lemmas.Grind.{common_steps}
use Rattle.lines.specs.Line.{hex_val, is_hex}
use Rattle.lines.proofs.hex_value.Goals as goal

pub returns-in-48-to-57 : goal.returns-in-48-to-57
unfolding hex_val is_hex
returns-in-48-to-57 c = grind (arith, common_steps)

pub returns-in-65-to-70 : goal.returns-in-65-to-70
unfolding hex_val is_hex
returns-in-65-to-70 c = grind (arith, common_steps)

pub returns-in_default : goal.returns-in_default
unfolding hex_val is_hex
returns-in_default c = grind (arith, common_steps)

pub returns-in_default-2 : goal.returns-in_default-2
unfolding hex_val is_hex
returns-in_default-2 c = grind (arith, common_steps)

pub returns-in_default-3 : goal.returns-in_default-3
unfolding hex_val is_hex
returns-in_default-3 c = grind (arith, common_steps)
