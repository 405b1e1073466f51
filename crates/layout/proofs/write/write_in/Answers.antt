-- `layout::write::write_in` meets its contract. Assumes nothing.
use borrow.Author.Tests.{eq-eqb, ne_eqb}
use Rattle.std.specs.Prelude.{Some}
use Rattle.layout.specs.Numbers.{write_in}
use Rattle.layout.proofs.write.write_in.Goals as goal

pub returns-in-0 : goal.returns-in-0
unfolding write_in
returns-in-0 c = rw (eq-eqb _ _ c.in-0.is)

pub returns-in_default : goal.returns-in_default
unfolding write_in
returns-in_default c =
    rw (ne_eqb _ _ c.in_default.in_default-own.rest.1)
    (λ i. Some (record { master = record { 0 = c.low.ensures i }; bias = c.args.n.bias; ordinal = record { 0 = c.low-in_default.ensures i }; age = c.args.n.age }))
