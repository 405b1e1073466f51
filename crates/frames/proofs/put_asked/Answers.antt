-- `frames::put_asked` meets its contract: four writes side by side are the head.
-- Assumes nothing.
use Rattle.frames.proofs.LayLaws.{asked-put}
use Rattle.frames.proofs.put_asked.Goals as goal

pub returns : goal.returns
returns c = asked-put _ _ _ _ _ _ _ c.put_word.ensures c.put_char.ensures c.put_char-2.ensures c.put_word-2.ensures
