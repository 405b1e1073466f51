-- Calls from C on the packed room show what a unit showed whose files all had slots of the longest record. Assumes nothing.
use mathlib.Core.Path.{◌≡◌, refl, sym, ap, ◌∙◌}
use Prim.Native.Nat.{ℕ, ◌≤◌}
use mathlib.Core.List.{List, map}
use lib.ListN.{length}
use Rattle.model.specs.Limits.{most_means}
use Rattle.model.specs.Event.{Event}
use Rattle.model.specs.Run.{trace}
use Rattle.layout.specs.Unit.{config_given}
use Rattle.layout.specs.Records.{unpacked}
use Rattle.layout.specs.Kept.{Owned}
use Rattle.layout.proofs.RecordsLaws.{unpacked-serves}
use Rattle.history.specs.Runs.{fresh_kept, answers_laid}
use Rattle.history.proofs.RunLaws.{answers_run}
use Rattle.unit.proofs.CallLaws.{results-map}
use Rattle.board.specs.Runs.{Numbered, numbered}
use Rattle.board.specs.Demand3.{Called}
use Rattle.board.proofs.RunLaws.{run_trace}

-- for the characters of any configuration and every run of calls, whatever stood in that unit's room
pub calls-alike : (cs : List ℕ) {es : List Event} {xs : List Numbered} {y : Owned} → Called cs es xs y → (area : List ℕ) → (unpacked (config_given cs)).window most_means ≤ length area
    → xs ≡ map numbered (answers_laid (unpacked (config_given cs)) (config_given cs) (fresh_kept (config_given cs) area) es)
calls-alike cs {es} r area room =
    run_trace cs refl r.area r.fresh r.room r.runs
    ∙ ap (map numbered) (results-map (trace (config_given cs) es) ∙ sym (answers_run (unpacked (config_given cs)) (config_given cs) (unpacked-serves (config_given cs)) area es room))
