-- `layout::select::put_hold` meets its contract. Assumes nothing.
use Rattle.layout.proofs.KeepLaws.{five_kept}
use Rattle.layout.proofs.select.put_hold.Goals as goal

pub returns : goal.returns
returns c =
    five_kept 5 _ _ _ _ _ c.put_kept.ensures.renumbered c.put_kept-2.ensures.renumbered c.put_kept-3.ensures.renumbered
    c.put_kept-4.ensures.renumbered c.put_kept-5.ensures.renumbered
