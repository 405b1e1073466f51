-- `layout::equipment::has_calculation` meets its contract. Assumes nothing.
use Rattle.std.proofs.Common.{rules, lt-ltb, le-ltb}
use lib.Dec.{lit<}
use Rattle.chars.specs.Put.{part}
use Rattle.model.specs.Config.{has, has_calculation}
use Rattle.layout.specs.Regions.{start_in}
use Rattle.layout.specs.Unit.{unit_sizes, calculations_region, config_from, unit_from}
use Rattle.layout.proofs.RegionLaws.{region_part}
use Rattle.layout.proofs.JudgedLaws.{and_on, and_off}
use Rattle.layout.proofs.equipment.has_calculation.Goals as goal

pub returns-then-number-lt128 : goal.returns-then-number-lt128
unfolding has has_calculation unit_from config_from unit_sizes start_in part
returns-then-number-lt128 c =
    let r = region_part unit_sizes c.args.unit.now calculations_region (lit< tt) in and_on (lt-ltb _ _ c.if-number-lt128.true) (search (rules, r))

pub returns-else-number-lt128 : goal.returns-else-number-lt128
unfolding has_calculation
returns-else-number-lt128 c = and_off _ (le-ltb _ _ c.if-number-lt128.false) (le-ltb _ _ c.if-number-lt128.false)
