-- `frames::outcomes::is_answered` meets its contract.
use mathlib.Core.Path.{sym, ap, ◌∙◌}
use mathlib.Core.Logic.{inl, inr}
use Rattle.model.specs.Step.{answered}
use Rattle.frames.proofs.outcomes.is_answered.Goals as goal

pub returns-in-Normal : goal.returns-in-Normal
unfolding answered
returns-in-Normal c =
    let sent = sym c.sending.ensures in
    elim c.in-Normal.is [ inl e ↦ sym (ap answered (sent ∙ e)) | inr (inl e) ↦ sym (ap answered (sent ∙ e)) | inr (inr e) ↦ sym (ap answered (sent ∙ e)) ]

pub returns-in-Unanswered : goal.returns-in-Unanswered
unfolding answered
returns-in-Unanswered c = sym (ap answered (sym c.sending.ensures ∙ c.in-Unanswered.is))
