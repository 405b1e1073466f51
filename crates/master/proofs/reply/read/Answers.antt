-- `master::reply::read` meets its contract, a return for each way in which it ends. Assumes nothing.
use mathlib.Core.Path.{sym, ◌∙◌}
use native.Mathlib.Omega.{arith}
use Rattle.master.proofs.ReplyLaws.{length_range}
use Rattle.master.proofs.ReadLaws.{read_short, read_unranged, kept-long, kept_whole, read_kept, read_none}
use Rattle.master.proofs.reply.read.Goals as goal

pub returns-then-room-lt-MOST : goal.returns-then-room-lt-MOST
returns-then-room-lt-MOST c = read_short _ _ _ (omega arith)

pub keeps_for-requires : goal.keeps_for-requires
keeps_for-requires c = length_range _ (sym c.in_range.ensures ∙ c.if-not-in_range.false)

pub settle-requires : goal.settle-requires
settle-requires c = kept-long c.args.poll.now c.args.reply.now c.args.room.now (omega arith) (sym c.in_range.ensures ∙ c.if-not-in_range.false) _ c.judge-judged.ensures _ c.data_of-ys.ensures _ _ c.is_normal.ensures c.keeps_for.ensures

pub lay_records-count-requires : goal.lay_records-count-requires
lay_records-count-requires c = kept_whole c.args.poll.now c.args.reply.now c.args.room.now (omega arith) (sym c.in_range.ensures ∙ c.if-not-in_range.false) _ c.judge-judged.ensures _ c.data_of-ys.ensures _ _ c.is_normal.ensures c.keeps_for.ensures c.if-not-anew.false

pub returns : goal.returns
returns c = read_kept c.args.poll.now c.args.reply.now c.args.room.now (omega arith) (sym c.in_range.ensures ∙ c.if-not-in_range.false) _ c.judge-judged.ensures _ c.data_of-ys.ensures _ _ c.is_normal.ensures c.keeps_for.ensures c.if-not-anew.false _ _ _ _ c.settle.ensures c.lay_records-count.ensures.0 c.lay_records-count.ensures.1 c.lay_records-count.ensures.2

pub returns-then-not-anew : goal.returns-then-not-anew
returns-then-not-anew c = read_none c.args.poll.now c.args.reply.now c.args.room.now (omega arith) (sym c.in_range.ensures ∙ c.if-not-in_range.false) _ c.judge-judged.ensures _ c.data_of-ys.ensures _ _ c.is_normal.ensures c.keeps_for.ensures c.if-not-anew.true _ c.settle.ensures

pub returns-then-not-in_range : goal.returns-then-not-in_range
returns-then-not-in_range c = read_unranged _ _ _ (omega arith) (sym c.in_range.ensures ∙ c.if-not-in_range.true)
