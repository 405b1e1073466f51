-- `layout::parts::word_of` meets its contract. Assumes nothing.
use Rattle.std.specs.Prelude.{ℕ, List, ◌*◌}
use mathlib.Core.Path.{sym, ap, ◌∙◌}
use lib.Dec.{lit<}
use Rattle.chars.specs.Put.{part}
use Rattle.chars.specs.Word.{word_at}
use Rattle.layout.proofs.UnitLaws.{words_at_lem}
use Rattle.layout.specs.Regions.{start_in}
use Rattle.layout.specs.Unit.{unit_sizes, words_region, unit_from}
use Rattle.layout.proofs.RegionLaws.{region_part}
use Rattle.layout.proofs.parts.word_of.Goals as goal

pub returns : goal.returns
unfolding unit_from unit_sizes start_in part
returns c = (rw c.from.ensures at c.word_at.ensures) ∙ ap (λ (t : List ℕ). word_at t (2 * c.args.number.0)) (sym (region_part unit_sizes c.args.unit.now words_region (lit< tt))) ∙ sym (words_at_lem _ _)
