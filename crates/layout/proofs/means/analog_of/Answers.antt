-- `layout::means::analog_of` meets its contract. Assumes nothing.
use Rattle.std.specs.Prelude.{ℕ, List, get_or}
use mathlib.Core.Path.{sym, ap, ◌∙◌}
use lib.Dec.{lit<}
use Rattle.chars.specs.Put.{part}
use Rattle.model.specs.Config.{analog_at}
use Rattle.layout.specs.Regions.{start_in}
use Rattle.layout.specs.Unit.{unit_sizes, sampled_region, config_from, unit_from}
use Rattle.layout.proofs.RegionLaws.{region_part}
use Rattle.layout.proofs.means.analog_of.Goals as goal

pub returns : goal.returns
unfolding analog_at unit_from config_from unit_sizes start_in part
returns c = λ i. record { 0 = (c.char_in.ensures ∙ ap (λ (t : List ℕ). get_or t c.args.place 0) (sym (region_part unit_sizes c.args.unit.now sampled_region (lit< tt)))) i }
