-- `layout::equipment::config_judged` meets its contract. Assumes nothing.
use Rattle.std.proofs.Common.{rules, tests}
use Rattle.layout.specs.Judged.{config_judged}
use Rattle.layout.proofs.equipment.config_judged.Goals as goal

pub returns-then-no_input-2 : goal.returns-then-no_input-2
unfolding config_judged
returns-then-no_input-2 c = search (rules, tests)

pub returns-else-no_input-2 : goal.returns-else-no_input-2
unfolding config_judged
returns-else-no_input-2 c = search (rules, tests)
