-- `serve::ending::finish` meets its contract. Assumes nothing.
use Rattle.serve.specs.Ends.{head_of}
use Rattle.serve.proofs.EndingLaws.{replies-said, replies-none}
use mathlib.Core.Path.{sym, ◌∙◌}
use Rattle.serve.proofs.ending.finish.Goals as goal

pub returns-then-is_answered : goal.returns-then-is_answered
returns-then-is_answered c =
    replies-said _ c.args.outcome (head_of c.args.status c.args.frame.address c.args.frame.function c.args.outcome c.args.count c.args.port) _ (sym c.is_answered.ensures ∙ c.if-is_answered.true)
    (λ j. record { address = c.args.frame.address; function = c.reply_function.ensures j; status = c.args.status; port = c.args.port; count = c.args.count })
    c.fill.ensures

pub returns : goal.returns
returns c =
    replies-none _ _ _ (sym c.is_answered.ensures ∙ c.if-is_answered.false)
