-- `frames::outcomes::is_damaged` meets its contract.
use mathlib.Core.Path.{sym, ap}
use mathlib.Core.Logic.{inl, inr}
use borrow.Author.Tests.{ne_eqb}
use Rattle.model.specs.Outcome.{number_of, damaged}
use Rattle.model.specs.declared.Outcome.TheVariants.{NotWhole, CheckWrong}
use Rattle.model.proofs.Numbered.{same_number}
use Rattle.frames.proofs.outcomes.is_damaged.Goals as goal

pub returns-in-NotWhole : goal.returns-in-NotWhole
unfolding damaged
returns-in-NotWhole c = elim c.in-NotWhole.is [ inl e ↦ sym (ap damaged e) | inr e ↦ sym (ap damaged e) ]

pub returns-in_default : goal.returns-in_default
unfolding damaged
returns-in_default c =
    let o = c.args.outcome in
    let whole = ne_eqb (number_of o) 1 (λ e. c.in_default.not-NotWhole (same_number o NotWhole e)) in
    let right = ne_eqb (number_of o) 2 (λ e. c.in_default.not-CheckWrong (same_number o CheckWrong e)) in
    rw (whole, right)
