-- `checkword::table::divided` meets its contract, by eight bits a look-up.
-- Assumes nothing.
use mathlib.Core.Path.{sym, ap, ◌∙◌}
use Rattle.checkword.specs.Check.{bit_steps}
use Rattle.checkword.proofs.Steps.{bit_steps_add}
use Rattle.checkword.proofs.Words.{xor_words}
use Rattle.checkword.proofs.table.divided.Goals as goal

pub returns : goal.returns
returns c =
    let v = c.args.v in
    let t = c.words-table.ensures in
    rw (c.from-2.ensures, c.from.ensures) (xor_words _ t _ ∙ ap (bit_steps 8) (xor_words _ t v) ∙ sym (bit_steps_add 8 8 v))
