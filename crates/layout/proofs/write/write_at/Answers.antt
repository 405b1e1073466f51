-- `layout::write::write_at` meets its contract. Assumes nothing.
use Rattle.layout.proofs.write.write_at.Goals as goal

pub returns : goal.returns
returns c =
    λ i. record {
      write = c.kept_of.ensures i;
      master = c.kept_of-2.ensures i;
      bias = c.kept_of-3.ensures i;
      ordinal = c.kept_of-4.ensures i;
      age = c.kept_of-5.ensures i;
    }
