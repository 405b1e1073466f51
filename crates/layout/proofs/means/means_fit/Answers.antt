-- `layout::means::means_fit` meets its contract: a unit without means by its files alone. Assumes nothing.
use mathlib.Core.Path.{refl, sym, ◌∙◌}
use borrow.Author.Tests.{le-leb, lt-leb}
use Rattle.layout.proofs.JudgedLaws.{and_on, and_off}
use Rattle.layout.proofs.MeansLaws.{none-judged, some-judged, few-judged}
use Rattle.layout.proofs.means.means_fit.Goals as goal

pub returns-then-no_means : goal.returns-then-no_means
returns-then-no_means c = λ v. c.has_room.ensures v ∙ none-judged _ (sym c.no_means.ensures ∙ c.if-no_means.true) _

pub returns-then-has_room : goal.returns-then-has_room
returns-then-has_room c = λ v.
    (and_on (le-leb _ _ c.if-windows-room.true) (and_on c.if-has_room.true refl))
    ∙ some-judged _ _ c.windows_to-windows.ensures.0 (c.has_room-then-windows-room.ensures v) c.places_judged.ensures

pub returns-else-has_room : goal.returns-else-has_room
returns-else-has_room c = λ v.
    (and_on (le-leb _ _ c.if-windows-room.true) (and_off _ c.if-has_room.false c.if-has_room.false))
    ∙ some-judged _ _ c.windows_to-windows.ensures.0 (c.has_room-then-windows-room.ensures v) refl

pub returns-else-windows-room : goal.returns-else-windows-room
returns-else-windows-room c = λ v. few-judged _ _ c.windows_to-windows.ensures.0 (lt-leb _ _ c.if-windows-room.false)
