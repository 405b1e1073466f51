-- `layout::means::has_analog` meets its contract. Assumes nothing.
use Rattle.std.proofs.Common.{rules, tests}
use Rattle.model.specs.Config.{has_analog}
use Rattle.layout.proofs.means.has_analog.Goals as goal

pub returns-then-number-ge128 : goal.returns-then-number-ge128
unfolding has_analog
returns-then-number-ge128 c = search (rules, tests)

pub returns-else-number-ge128 : goal.returns-else-number-ge128
unfolding has_analog
returns-else-number-ge128 c = search (rules, tests)
