-- `tables::told::numbers_anew` meets its contract. The invariant: the first i numbers are done. Assumes nothing.
use Rattle.std.proofs.Common.{◌≡◌, ℕ, ◌+◌, List, get_or, ap, arith}
use Rattle.layout.proofs.UnitLaws.{unit-long}
use Rattle.tables.proofs.ToldLaws.{numbers-none, numbers_more}
use Rattle.tables.proofs.told.numbers_anew.Goals as goal

pub loop-i-init : goal.loop-i-init
loop-i-init c = numbers-none _ _

pub loop-i-preserved : goal.loop-i-preserved
loop-i-preserved c = numbers_more _ _ _ _ _ (unit-long _ c.told-unit) (omega arith) c.loop-i.invariant (ap (λ (xs : List ℕ). get_or xs (c.args.t.start + c.loop-i.i) 0) c.area_of.ensures) c.start_anew.ensures

pub returns : goal.returns
returns c =
    let e : c.loop-i.i ≡ c.args.t.quantity = omega arith in
    rw e at c.loop-i.invariant
