-- `layout::select::hold_in` meets its contract. Assumes nothing.
use borrow.Author.Tests.{eq-eqb, ne_eqb}
use Rattle.std.specs.Prelude.{eqb}
use Rattle.model.specs.declared.Hold.TheVariants.{Held, TimedOut}
use Rattle.layout.specs.Numbers.{hold_in}
use Rattle.layout.proofs.NumbersLaws.{one_none}
use Rattle.layout.proofs.select.hold_in.Goals as goal

pub returns-in-0 : goal.returns-in-0
unfolding hold_in
returns-in-0 c = rw (eq-eqb _ _ c.in-0.is)

pub returns-in-1 : goal.returns-in-1
unfolding hold_in
returns-in-1 c =
    rw (ne_eqb _ _ (one_none c.in-1.is), eq-eqb _ _ c.in-1.is)
    (λ i. Held (record { master = record { 0 = c.low.ensures i }; output = record { 0 = c.low-in-1.ensures i }; close = eqb c.args.n.close 1; age = c.args.n.age }))

pub returns-in_default : goal.returns-in_default
unfolding hold_in
returns-in_default c =
    rw (ne_eqb _ _ c.in_default.in_default-own.rest.0.1, ne_eqb _ _ c.in_default.in_default-own.rest.1) (λ i. TimedOut (record { 0 = c.low-in_default.ensures i }))
