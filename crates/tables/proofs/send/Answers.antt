-- `tables::send` meets its contract. Assumes nothing.
use Rattle.std.proofs.Common.{refl, sym, ◌∙◌}
use Rattle.chars.proofs.GatherLaws.{gathered_join}
use Rattle.model.specs.declared.Outcome.TheVariants.{Done, NotValid, TooLong}
use Rattle.points.proofs.AnswerLaws.{fills_refused, fills_gathered}
use Rattle.tables.proofs.TableLaws.{send_not-valid, send_too_long, send_done}
use Rattle.tables.proofs.send.Goals as goal

pub returns-then-not-can_send_all : goal.returns-then-not-can_send_all
returns-then-not-can_send_all c =
    fills_refused NotValid (send_not-valid _ _ _ _ _ _ (sym c.can_send_all.ensures ∙ c.if-not-can_send_all.true)) c.refused.ensures refl

pub returns-then-words-gt255 : goal.returns-then-words-gt255
returns-then-words-gt255 c =
    let e = sym c.can_send_all.ensures ∙ c.if-not-can_send_all.false in
    fills_refused TooLong (send_too_long _ _ _ _ _ _ e (rw c.words.ensures at c.if-words-gt255.true)) c.refused-then-words-gt255.ensures refl

pub returns : goal.returns
returns c =
    let one = rw c.numbers_of.ensures.value at c.write-a.ensures.gathered in
    let two = rw c.numbers_of-2.ensures.value at c.write-b.ensures.gathered in
    let own = rw c.numbers_of-3.ensures.value at c.write-c.ensures.gathered in
    let e = sym c.can_send_all.ensures ∙ c.if-not-can_send_all.false in
    fills_gathered Done (gathered_join one (gathered_join two own)) (send_done _ _ _ _ _ _ e (rw c.words.ensures at c.if-words-gt255.false)) c.done.ensures
