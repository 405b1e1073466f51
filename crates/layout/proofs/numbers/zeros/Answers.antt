-- `layout::numbers::zeros` meets its contract: one comparison of a sum, which is 0 where each of its parts is.
-- Assumes nothing.
use mathlib.Core.Path.{◌∙◌}
use Rattle.layout.proofs.JudgedLaws.{zeros_one}
use Rattle.layout.proofs.numbers.zeros.Goals as goal

pub returns : goal.returns
returns c =
    zeros_one (c.from-a.ensures ∙ c.kept_of.ensures) (c.from-b.ensures ∙ c.kept_of-2.ensures)
    (c.from-c.ensures ∙ c.kept_of-3.ensures) (c.from-d.ensures ∙ c.kept_of-4.ensures)
