-- `layout::select::hold_stands` meets its contract: an arm for each case.
-- Assumes nothing.
use mathlib.Core.Path.{sym, ◌∙◌}
use Rattle.layout.proofs.RangeLaws.{hold-free, hold-held, hold-timed_out, hold-none}
use Rattle.layout.proofs.select.hold_stands.Goals as goal

pub returns-in-0 : goal.returns-in-0
returns-in-0 c = c.zeros.ensures ∙ hold-free _ (sym c.kept_of-tag.ensures ∙ c.in-0.is)

pub returns-in-1 : goal.returns-in-1
returns-in-1 c =
    rw (c.kept_of.ensures, c.kept_of-in-1.ensures, c.kept_of-in-1-2.ensures)
    (hold-held _ (sym c.kept_of-tag.ensures ∙ c.in-1.is))

pub returns-in-2 : goal.returns-in-2
returns-in-2 c =
    rw (c.kept_of-in-2.ensures, c.kept_of-in-2-2.ensures, c.kept_of-in-2-3.ensures, c.kept_of-in-2-4.ensures)
    (hold-timed_out _ (sym c.kept_of-tag.ensures ∙ c.in-2.is))

pub returns-in_default : goal.returns-in_default
returns-in_default c =
    let tag = c.kept_of-tag.ensures in
    hold-none _ (λ q. c.in_default.in_default-own.rest.0.0.1 (tag ∙ q)) (λ q. c.in_default.in_default-own.rest.0.1 (tag ∙ q)) (λ q. c.in_default.in_default-own.rest.1 (tag ∙ q))
