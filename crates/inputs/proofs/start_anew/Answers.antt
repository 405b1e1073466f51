-- `inputs::start_anew` meets its contract. Assumes nothing.
use Rattle.std.proofs.Common.{sym, ◌∙◌}
use Rattle.layout.proofs.ContactLaws.{anew-none, anew-told}
use Rattle.inputs.proofs.InputLaws.{groups_chosen, groups_unchosen}
use Rattle.inputs.proofs.start_anew.Goals as goal
use Rattle.inputs.proofs.start_anew.Goals.{else-command-eq1-via-then-command-eq1+else-not-all_told, else-command-eq1-via-else-command-eq1}

pub returns-then-not-all_told : goal.returns-then-not-all_told
returns-then-not-all_told c = rw (groups_chosen _ _ c.if-command-eq1.true) c.groups_anew.ensures

pub returns-else-command-eq1 : goal.returns-else-command-eq1
returns-else-command-eq1 c =
    elim c.else-command-eq1.branch [
      | else-command-eq1-via-then-command-eq1+else-not-all_told w ↦ anew-told _ _ _ (sym w.all_told.ensures ∙ w.if-not-all_told.false)
      | else-command-eq1-via-else-command-eq1 w ↦ rw (groups_unchosen _ _ w.if-command-eq1.false) (anew-none _)
    ]
