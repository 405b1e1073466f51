-- `layout::core_part::core_judged` meets its contract. Assumes nothing.
use Rattle.std.proofs.Common.{rules, tests}
use Rattle.layout.specs.Judged.{core_judged}
use Rattle.layout.proofs.core_part.core_judged.Goals as goal

pub returns-then-bits_stand : goal.returns-then-bits_stand
unfolding core_judged
returns-then-bits_stand c = search (rules, tests)

pub returns-else-bits_stand : goal.returns-else-bits_stand
unfolding core_judged
returns-else-bits_stand c = search (rules, tests)
