-- `layout::write::put_write` meets its contract. Assumes nothing.
use Rattle.layout.proofs.KeepLaws.{five_kept}
use Rattle.layout.proofs.write.put_write.Goals as goal

pub returns : goal.returns
returns c =
    five_kept 10 _ _ _ _ _ c.put_kept.ensures.renumbered c.put_kept-2.ensures.renumbered c.put_kept-3.ensures.renumbered
    c.put_kept-4.ensures.renumbered c.put_kept-5.ensures.renumbered
