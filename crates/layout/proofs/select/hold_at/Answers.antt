-- `layout::select::hold_at` meets its contract. Assumes nothing.
use Rattle.layout.proofs.select.hold_at.Goals as goal

pub returns : goal.returns
returns c =
    λ i. record {
      hold = c.kept_of.ensures i;
      master = c.kept_of-2.ensures i;
      output = c.kept_of-3.ensures i;
      close = c.kept_of-4.ensures i;
      age = c.kept_of-5.ensures i;
    }
