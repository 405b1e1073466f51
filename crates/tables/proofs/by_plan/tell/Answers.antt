-- `tables::by_plan::tell` meets its contract. Assumes nothing.
use Rattle.std.proofs.Common.{◌≡◌, ◌+◌, ◌-◌, ◌/◌, min, length, arith}
use Rattle.chars.specs.Put.{part}
use Rattle.tables.specs.Able.{reply_end}
use Rattle.tables.proofs.PlannedLaws.{cut-told}
use Rattle.tables.proofs.by_plan.tell.Goals as goal

pub returns-clause-gathered : goal.returns-clause-gathered
unfolding part
returns-clause-gathered c =
    let s = c.from-s.result in
    let m = c.min-m.result in
    let e : s + m - s ≡ m = omega arith in
    let f : m ≡ min (min c.from-n.result (length c.args.area.now - s)) ((reply_end - c.args.to) / 2) = omega arith in
    cut-told _ c.args.area.now _ _ _ c.from-s.ensures c.from-n.ensures f (rw e at c.write.ensures.gathered)
