-- `layout::means::equipped_now` meets its contract. Assumes nothing.
use mathlib.Core.Path.{sym, ◌∙◌}
use Rattle.std.proofs.Common.{arith, rules, tests}
use Rattle.layout.specs.Regions.{start_in}
use Rattle.layout.specs.Unit.{unit_sizes}
use Rattle.layout.proofs.MeansLaws.{equipped_copied, equipped-struck, none-struck}
use Rattle.layout.proofs.means.equipped_now.Goals as goal

pub returns-else-not-no_means : goal.returns-else-not-no_means
unfolding start_in unit_sizes
returns-else-not-no_means c = none-struck _ (sym c.no_means.ensures ∙ search (rules, tests)) (equipped_copied _ _ (omega (arith, c.copy-arg-2-1.given)) (omega (arith, c.copy-arg-1.given)) c.copy.ensures)

pub returns-then-not-no_means : goal.returns-then-not-no_means
unfolding start_in unit_sizes
returns-then-not-no_means c = equipped-struck _ (equipped_copied _ _ (omega (arith, c.copy-arg-2-1.given)) (omega (arith, c.copy-arg-1.given)) c.copy.ensures) c.strike_all.ensures
