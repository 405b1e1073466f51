-- `layout::write::write_stands` meets its contract: an arm for each case.
-- Assumes nothing.
use mathlib.Core.Path.{sym, ◌∙◌}
use Rattle.layout.proofs.RangeLaws.{write-free, write-waits, write-none}
use Rattle.layout.proofs.write.write_stands.Goals as goal

pub returns-in-0 : goal.returns-in-0
returns-in-0 c = c.zeros.ensures ∙ write-free _ (sym c.kept_of-tag.ensures ∙ c.in-0.is)

pub returns-in-1 : goal.returns-in-1
returns-in-1 c =
    rw (c.kept_of.ensures, c.kept_of-in-1.ensures)
    (write-waits _ (sym c.kept_of-tag.ensures ∙ c.in-1.is))

pub returns-in_default : goal.returns-in_default
returns-in_default c =
    let tag = c.kept_of-tag.ensures in
    write-none _ (λ q. c.in_default.in_default-own.rest.0.1 (tag ∙ q)) (λ q. c.in_default.in_default-own.rest.1 (tag ∙ q))
