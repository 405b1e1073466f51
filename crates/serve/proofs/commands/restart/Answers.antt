-- `serve::commands::restart` meets its contract. Assumes nothing.
use mathlib.Core.Path.{◌≡◌, sym, ◌∙◌}
use mathlib.Core.Bool.{true, false}
use lib.Dec.{eqb}
use lib.ListN.{length}
use Rattle.layout.proofs.NumbersLaws.{readable-written}
use Rattle.layout.proofs.UnitLaws.{renumbered_same}
use Rattle.serve.proofs.commands.restart.Goals as goal

pub returns-then-not-is_empty : goal.returns-then-not-is_empty
returns-then-not-is_empty c =
    let some : eqb (length c.args.body.now) 0 ≡ false = sym c.is_empty.ensures ∙ c.if-not-is_empty.true in
    record { value = rw some c.from.ensures; numbers_promise = (λ stands. rw some (readable-written _ stands), renumbered_same _) }

pub returns : goal.returns
returns c =
    let none : eqb (length c.args.body.now) 0 ≡ true = sym c.is_empty.ensures ∙ c.if-not-is_empty.false in
    record { value = rw none c.from-2.ensures; numbers_promise = (λ stands. rw none (c.forget.ensures.0 stands), c.forget.ensures.1) }
