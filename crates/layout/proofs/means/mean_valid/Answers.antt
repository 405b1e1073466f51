-- `layout::means::mean_valid` meets its contract: each test in turn. Assumes nothing.
use Rattle.std.proofs.Common.{rules, tests}
use Rattle.model.specs.Config.{mean_valid}
use Rattle.layout.proofs.MeansLaws.{place-eq, used-low}
use Rattle.layout.proofs.means.mean_valid.Goals as goal

pub returns-then-window-eq0 : goal.returns-then-window-eq0
unfolding mean_valid
returns-then-window-eq0 c = search (rules, tests)

pub returns-then-has_analog : goal.returns-then-has_analog
unfolding mean_valid
returns-then-has_analog c = search (rules, tests, place-eq, used-low)

pub returns-else-has_analog : goal.returns-else-has_analog
unfolding mean_valid
returns-else-has_analog c = search (rules, tests)
