-- `blocks::read` meets its contract: the tests are those of the definition, in its order.
use mathlib.Core.Path.{◌≡◌, refl, sym, ◌∙◌}
use Rattle.std.proofs.Common.{arith}
use Rattle.std.proofs.lemmas.Grind.{common_steps}
use lib.ListN.{length}
use borrow.Author.Tests.{eq-eqb}
use Rattle.chars.specs.Word.{word_at}
use Rattle.model.specs.Scan.{counts}
use Rattle.model.specs.Blocks.{read_of}
use Rattle.blocks.proofs.AnswerLaws.{found_as}
use Rattle.blocks.proofs.read.Goals as goal

pub returns-in_default : goal.returns-in_default
unfolding read_of counts
returns-in_default c = grind (arith, common_steps)

pub returns-then-not-reaches : goal.returns-then-not-reaches
unfolding read_of counts
returns-then-not-reaches c =
    let bias : c.from_le_bytes-bias.result ≡ word_at c.args.body.now 0 = unfold word_at in omega (arith, c.from_le_bytes-bias.ensures) in
    let out = sym c.reaches.ensures ∙ c.if-not-reaches.true in
    rw (← c.fixed_of-fixed.ensures) (simp (eq-eqb (length c.args.body.now) 4 (omega arith), sym bias, out) c.returned-then-not-reaches.ensures)

pub returns : goal.returns
returns c =
    let bias : c.from_le_bytes-bias.result ≡ word_at c.args.body.now 0 = unfold word_at in omega (arith, c.from_le_bytes-bias.ensures) in
    let in_block = sym c.reaches.ensures ∙ c.if-not-reaches.false in
    rw (← c.fixed_of-fixed.ensures, c.from-2.ensures)
    (found_as _ _ _ _ _ _ _ _ (omega arith) bias in_block c.find-found.ensures refl (rw c.from.ensures at c.copy.ensures))
