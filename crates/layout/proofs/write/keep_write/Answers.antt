-- `layout::write::keep_write` meets its contract. Assumes nothing.
use Rattle.layout.proofs.KeepLaws.{write-put}
use Rattle.layout.proofs.write.keep_write.Goals as goal

pub returns : goal.returns
returns c = write-put _ _ c.write_numbers.ensures c.put_write.ensures
