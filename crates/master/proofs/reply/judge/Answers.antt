-- `master::reply::judge` meets its contract: the refusals in their order. Assumes nothing.
use mathlib.Core.Path.{sym, ◌∙◌}
use native.Mathlib.Omega.{arith}
use Rattle.master.proofs.ReplyLaws.{whole_long, latest_range, over_broken, over_wrong, over_other, over_data}
use Rattle.master.proofs.reply.judge.Goals as goal

pub returns-then-not-is_whole : goal.returns-then-not-is_whole
returns-then-not-is_whole c = over_broken _ _ (sym c.is_whole.ensures ∙ c.if-not-is_whole.true)

pub is_checked-requires : goal.is_checked-requires
is_checked-requires c = omega (arith, whole_long _ (sym c.is_whole.ensures ∙ c.if-not-is_whole.false))

pub returns-then-not-is_checked : goal.returns-then-not-is_checked
returns-then-not-is_checked c = over_wrong _ _ (sym c.is_whole.ensures ∙ c.if-not-is_whole.false) (sym c.is_checked.ensures ∙ c.if-not-is_checked.true)

pub returns-then-word_at-waiting_address : goal.returns-then-word_at-waiting_address
returns-then-word_at-waiting_address c = over_other _ _ (sym c.is_whole.ensures ∙ c.if-not-is_whole.false) (sym c.is_checked.ensures ∙ c.if-not-is_checked.false) _ _ c.word_at.ensures c.waiting_address.ensures c.if-word_at-waiting_address.true

pub read_data-requires : goal.read_data-requires
read_data-requires c = latest_range _ c.requires

pub returns-else-word_at-waiting_address : goal.returns-else-word_at-waiting_address
returns-else-word_at-waiting_address c = c.read_data.ensures ∙ over_data _ _ (sym c.is_whole.ensures ∙ c.if-not-is_whole.false) (sym c.is_checked.ensures ∙ c.if-not-is_checked.false) _ _ c.word_at.ensures c.waiting_address.ensures c.if-word_at-waiting_address.false
