-- `serve::ending::start_anew` meets its contract. Assumes nothing.
use Rattle.model.specs.declared.Outcome.TheVariants.{Done}
use Rattle.layout.proofs.ContactLaws.{anew-none}
use Rattle.serve.proofs.OutcomeLaws.{numbers-tell}
use Rattle.serve.proofs.ToldLaws.{carried-inputs, carried_tables, carried_none, anew-done, anew_undone}
use Rattle.serve.proofs.ending.start_anew.Goals as goal

pub returns-then-frame : goal.returns-then-frame
returns-then-frame c =
    anew-done _ _ (numbers-tell _ Done c.eq.ensures c.if-eq.true) (carried-inputs _ _ _ c.if-frame.true) c.start_anew.ensures

pub returns-then-frame-2 : goal.returns-then-frame-2
returns-then-frame-2 c =
    anew-done _ _ (numbers-tell _ Done c.eq.ensures c.if-eq.true) (carried_tables _ _ _ c.if-frame-2.true) c.start_anew-then-frame-2.ensures

pub returns-else-frame-2 : goal.returns-else-frame-2
returns-else-frame-2 c =
    anew-done _ _ (numbers-tell _ Done c.eq.ensures c.if-eq.true) (carried_none _ _ _ c.if-frame.false c.if-frame-2.false) (anew-none _)

pub returns-else-eq : goal.returns-else-eq
returns-else-eq c = anew_undone _ _ _ (numbers-tell _ Done c.eq.ensures c.if-eq.false)
