-- `layout::means::place_of` meets its contract: the first place that is used for the number, if it is one of the sixteen. Assumes nothing.
use Rattle.std.proofs.Common.{rules, tests, sym, ◌∙◌, arith}
use Rattle.std.proofs.lemmas.Iterator.{YieldsList-from_range}
use Rattle.std.proofs.lemmas.Iterator.Search.{find_from_yields_List}
use Rattle.model.specs.Config.{names, place_of, is_mean}
use Rattle.layout.specs.Unit.{config_in}
use Rattle.layout.proofs.MeansLaws.{find-first, option-same}
use Rattle.layout.proofs.means.place_of.Goals as goal

pub returns-clause-value : goal.returns-clause-value
unfolding is_mean place_of
returns-clause-value c =
    let e =
    sym (option-same c.find.result)
    ∙ find_from_yields_List (names (config_in c.args.unit.now) c.args.number.0) _ _ _ c.find.ensures.ran (YieldsList-from_range 0 16 16 (cc) (omega arith)) (λ x b q k. search (rules, tests))
    ∙ find-first (names (config_in c.args.unit.now) c.args.number.0) 0 16
    in
    search (rules, e, option-same)
