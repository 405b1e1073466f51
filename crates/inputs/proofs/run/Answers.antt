-- `inputs::run` meets its contract. The invariant: the first k inputs are gathered. Assumes nothing.
use Rattle.std.proofs.Common.{sym, ◌∙◌, arith}
use Rattle.chars.proofs.GatherLaws.{up_none, up_more, gathered_none, gathered_more, gathered_same}
use Rattle.chars.proofs.WordLaws.{length-word}
use Rattle.inputs.proofs.InputLaws.{word-taken, word-left}
use Rattle.inputs.proofs.run.Goals as goal
use Rattle.inputs.proofs.run.Goals.{then-has_input, else-has_input}

pub loop-k-init : goal.loop-k-init
loop-k-init c = (omega arith, rw up_none (gathered_none _ _ _))

pub loop-k-preserved : goal.loop-k-preserved
loop-k-preserved c =
    let g = c.loop-k.invariant.1 in
    let h = sym c.has_input.ensures in
    elim c.if-has_input.branch [
      | then-has_input w ↦ (omega arith, rw up_more (gathered_more g _ _ _ _ (word-taken _ _ _ (h ∙ w.if-has_input.true) w.word_of.ensures) (w.reply-is ∙ w.put_word.ensures) (rw length-word w.to-is)))
      | else-has_input w ↦ (omega arith, rw up_more (gathered_same g _ _ _ (word-left _ _ _ (h ∙ w.if-has_input.false)) w.reply-is w.to-is))
    ]
