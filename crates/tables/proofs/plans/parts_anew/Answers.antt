-- `tables::plans::parts_anew` meets its contract. Assumes nothing.
use Rattle.std.proofs.Common.{sym, ap, ◌∙◌}
use Rattle.layout.specs.Unit.{put_plans_at}
use Rattle.model.specs.Plans.{part_of}
use Rattle.tables.proofs.PlannedLaws.{parts-found}
use Rattle.tables.proofs.plans.parts_anew.Goals as goal

pub returns : goal.returns
unfolding part_of
returns c =
    rw (c.place.ensures, c.place-2.ensures, c.place-3.ensures) at c.put_plans.ensures ∙ ap (put_plans_at _ _) (sym (rw c.area_of.ensures at (parts-found c.found.ensures)))
