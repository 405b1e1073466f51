-- `layout::config::begin` meets its contract. Assumes nothing.
use Rattle.layout.proofs.BlankLaws.{blank_laid}
use Rattle.layout.proofs.config.begin.Goals as goal

pub returns : goal.returns
returns c = blank_laid _ c.copy-arg-1.given c.put_word.ensures c.copy.ensures
