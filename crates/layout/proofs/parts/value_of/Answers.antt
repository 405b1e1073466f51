-- `layout::parts::value_of` meets its contract. Assumes nothing.
use Rattle.std.specs.Prelude.{ℕ, List, ◌+◌, ◌*◌}
use mathlib.Core.Path.{sym, ap, ◌∙◌}
use lib.Dec.{lit<}
use Rattle.chars.specs.Put.{part}
use Rattle.chars.specs.Word.{word_at}
use Rattle.layout.specs.Regions.{start_in}
use Rattle.layout.specs.Unit.{unit_sizes, results_region, unit_from}
use Rattle.layout.proofs.RegionLaws.{region_part}
use Rattle.layout.proofs.UnitLaws.{values_at}
use Rattle.layout.proofs.parts.value_of.Goals as goal

pub returns : goal.returns
unfolding unit_from unit_sizes start_in part
returns c =
    rw (c.from.ensures, c.from-2.ensures, c.word_at.ensures, c.word_at-2.ensures, c.from-at.ensures)
    (ap (λ (t : List ℕ). word_at t (4 * c.args.number.0) + 65536 * word_at t (4 * c.args.number.0 + 2)) (sym (region_part unit_sizes c.args.unit.now results_region (lit< tt)))
    ∙ sym (values_at _ c.args.number.0))
