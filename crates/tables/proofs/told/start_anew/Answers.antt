-- `tables::told::start_anew` meets its contract. Assumes nothing.
use Rattle.std.proofs.Common.{sym, ◌∙◌}
use Rattle.layout.proofs.ContactLaws.{anew-told}
use Rattle.tables.proofs.ToldLaws.{numbers-within, parts-anew, none-anew}
use Rattle.tables.proofs.told.start_anew.Goals as goal

pub returns-then-all_told : goal.returns-then-all_told
returns-then-all_told c = anew-told _ _ _ (sym c.all_told.ensures ∙ c.if-all_told.true)

pub returns-then-value-eq0 : goal.returns-then-value-eq0
returns-then-value-eq0 c = none-anew _ _ (sym c.from-value.ensures ∙ c.if-value-eq0.true)

pub numbers_anew-requires : goal.numbers_anew-requires
numbers_anew-requires c = numbers-within _ (rw c.area_of.ensures at c.parts_of-parts.ensures.within.0)

pub numbers_anew-requires-2 : goal.numbers_anew-requires-2
numbers_anew-requires-2 c = numbers-within _ (rw c.area_of.ensures at c.parts_of-parts.ensures.within.1)

pub numbers_anew-requires-3 : goal.numbers_anew-requires-3
numbers_anew-requires-3 c = numbers-within _ (rw c.area_of.ensures at c.parts_of-parts.ensures.within.2)

pub returns : goal.returns
returns c =
    let f = rw (c.area_of.ensures, c.from-value.ensures) at c.parts_of-parts.ensures in
    parts-anew _ _ _ _ _ f.own f.one f.two c.numbers_anew.ensures c.numbers_anew-2.ensures c.numbers_anew-3.ensures
