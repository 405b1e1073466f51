-- `layout::port::keep_port` meets its contract. Assumes nothing.
use Rattle.std.specs.Prelude.{ℕ, List, set}
use Rattle.model.specs.Port.{mark_number}
use Rattle.layout.proofs.UnitLaws.{renumbered_then}
use Rattle.layout.proofs.port.keep_port.Goals as goal

pub returns : goal.returns
returns c =
    renumbered_then (λ (ks : List ℕ). set ks 25 (mark_number c.args.port.mark)) _ _ _
    c.put_kept.ensures.renumbered (rw c.mark_number.ensures at c.put_kept-2.ensures.renumbered)
