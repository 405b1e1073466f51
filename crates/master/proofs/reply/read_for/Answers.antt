-- `master::reply::read_for` meets its contract: normal, NOP or RST, each with data that some unit could send. Assumes nothing.
use mathlib.Core.Path.{◌∙◌}
use Rattle.model.specs.declared.Read.TheVariants.{OtherFunction}
use Rattle.model.specs.Believe.{empty}
use Rattle.model.specs.Poll.{to_one}
use Rattle.master.proofs.ReplyLaws.{for_normal, for_nop, for_rst, for_none}
use Rattle.master.proofs.reply.read_for.Goals as goal

pub returns-then-told-function : goal.returns-then-told-function
unfolding to_one
returns-then-told-function c = for_normal _ _ _ _ (c.from-told.ensures ∙ c.char_at.ensures) c.from-function.ensures _ c.if-told-function.true (c.believed.ensures ∙ rw (c.unit_of-one.ensures, c.could_tell.ensures, c.data_of-ys.ensures))

pub returns-then-told-function-2 : goal.returns-then-told-function-2
unfolding to_one
returns-then-told-function-2 c = for_nop _ _ _ _ (c.from-told.ensures ∙ c.char_at.ensures) c.from-function.ensures _ c.if-told-function.false c.if-told-function-2.true (c.believed-then-told-function-2.ensures ∙ rw (c.unit_of-one.ensures, c.could_refuse.ensures, c.data_of-ys.ensures))

pub returns-then-told-function-3 : goal.returns-then-told-function-3
unfolding to_one empty
returns-then-told-function-3 c = for_rst _ _ _ _ (c.from-told.ensures ∙ c.char_at.ensures) c.from-function.ensures _ c.if-told-function.false c.if-told-function-2.false c.if-told-function-3.true (c.believed-then-told-function-3.ensures ∙ rw (c.unit_of-one.ensures, c.is_empty.ensures, c.data_of-ys.ensures))

pub returns-else-told-function-3 : goal.returns-else-told-function-3
returns-else-told-function-3 c = for_none _ _ _ _ (c.from-told.ensures ∙ c.char_at.ensures) c.from-function.ensures OtherFunction c.if-told-function.false c.if-told-function-2.false c.if-told-function-3.false
