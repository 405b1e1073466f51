-- `layout::port::mark_in` meets its contract. Assumes nothing.
use borrow.Author.Tests.{eq-eqb, ne_eqb}
use Rattle.layout.specs.Numbers.{mark_in}
use Rattle.layout.proofs.NumbersLaws.{one_none}
use Rattle.layout.proofs.port.mark_in.Goals as goal

pub returns-in-0 : goal.returns-in-0
unfolding mark_in
returns-in-0 c = rw (eq-eqb _ _ c.in-0.is)

pub returns-in-1 : goal.returns-in-1
unfolding mark_in
returns-in-1 c = rw (ne_eqb _ _ (one_none c.in-1.is), eq-eqb _ _ c.in-1.is)

pub returns-in_default : goal.returns-in_default
unfolding mark_in
returns-in_default c = rw (ne_eqb _ _ c.in_default.in_default-own.rest.0.1, ne_eqb _ _ c.in_default.in_default-own.rest.1)
