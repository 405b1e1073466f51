-- `frames::put_head` meets its contract: five writes side by side are the head.
-- Assumes nothing.
use Rattle.frames.proofs.FillLaws.{head-put}
use Rattle.frames.proofs.put_head.Goals as goal

pub returns : goal.returns
returns c =
    head-put _ _ _ _ _ _ _
    c.put_word.ensures
    c.put_char.ensures
    c.put_char-2.ensures
    c.put_char-3.ensures
    c.put_word-2.ensures
