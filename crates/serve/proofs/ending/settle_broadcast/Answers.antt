-- `serve::ending::settle_broadcast` meets its contract: a reply, or none. Assumes nothing.
use mathlib.Core.Path.{sym, ◌∙◌}
use Rattle.layout.proofs.UnitLaws.{numbers-left, numbers_only, renumbered_same}
use Rattle.layout.proofs.NumbersLaws.{readable-written}
use Rattle.layout.proofs.PlaceLaws.{broadcast_written}
use Rattle.serve.proofs.ending.settle_broadcast.Goals as goal

pub returns-then-is_answered : goal.returns-then-is_answered
returns-then-is_answered c = (
  λ stands.
      rw (sym c.is_answered.ensures ∙ c.if-is_answered.true)
      (broadcast_written (readable-written _ stands) (numbers-left _ _ c.keep_broadcast.ensures)),
  numbers_only _ _ c.keep_broadcast.ensures,
)

pub returns-else-is_answered : goal.returns-else-is_answered
returns-else-is_answered c = (λ stands. rw (sym c.is_answered.ensures ∙ c.if-is_answered.false) (readable-written _ stands), renumbered_same _)
