-- `layout::clock::clock_judged` meets its contract: six comparisons.
-- Assumes nothing.
use Rattle.layout.proofs.JudgedLaws.{clock-judged}
use Rattle.layout.proofs.clock.clock_judged.Goals as goal

pub returns : goal.returns
returns c =
    rw (c.kept_of-day.ensures, c.kept_of.ensures, c.kept_of-2.ensures, c.kept_of-3.ensures, c.kept_of-4.ensures)
    (clock-judged _)
