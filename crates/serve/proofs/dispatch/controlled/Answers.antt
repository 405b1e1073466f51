-- `serve::dispatch::controlled` meets its contract: a select that is left stands as it is written. Assumes nothing.
use mathlib.Core.Path.{sym, ◌∙◌}
use Rattle.layout.proofs.NumbersLaws.{readable-written}
use Rattle.layout.proofs.PlaceLaws.{hold-written}
use Rattle.layout.proofs.UnitLaws.{renumbered_same, numbers-left, numbers_only}
use Rattle.serve.proofs.dispatch.controlled.Goals as goal

pub returns-then-not-left-clause-numbers_promise : goal.returns-then-not-left-clause-numbers_promise
returns-then-not-left-clause-numbers_promise c =
    let held = c.keep_hold.ensures in
    (λ stands. rw (sym c.left.ensures ∙ c.if-not-left.true) (hold-written (readable-written _ stands) (numbers-left _ _ held.0, held.1)), numbers_only _ _ held.0)

pub returns-else-not-left-clause-numbers_promise : goal.returns-else-not-left-clause-numbers_promise
returns-else-not-left-clause-numbers_promise c = (λ stands. rw (sym c.left.ensures ∙ c.if-not-left.false) (readable-written _ stands), renumbered_same _)
