-- `layout::means::places_judged` meets its contract. Assumes nothing.
use Rattle.std.proofs.Common.{rules, tests, ◌&&◌, ◌∙◌, arith}
use Rattle.std.proofs.lemmas.Iterator.{YieldsList-from_range}
use Rattle.std.proofs.lemmas.Iterator.Search.{all_from_yields_List}
use Rattle.model.specs.Config.{mean_valid}
use Rattle.model.specs.Fits.{samples_fit}
use Rattle.layout.specs.Unit.{unit_in, config_in}
use Rattle.layout.specs.Judged.{samples_by}
use Rattle.layout.proofs.MeansLaws.{means-each}
use Rattle.layout.proofs.means.places_judged.Goals as goal

pub returns : goal.returns
returns c =
    all_from_yields_List (λ p. mean_valid (config_in c.args.unit.now) p && samples_fit (config_in c.args.unit.now) (samples_by (unit_in c.args.unit.now).taken) p) _ _ _ c.all.ensures.ran (YieldsList-from_range 0 16 16 (cc) (omega arith)) (λ x b q k. search (rules, tests))
    ∙ means-each (config_in c.args.unit.now) (unit_in c.args.unit.now).taken
