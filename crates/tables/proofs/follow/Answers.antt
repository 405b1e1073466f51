-- `tables::follow` meets its contract. Assumes nothing.
use Rattle.std.proofs.Common.{◌≡◌, ◌+◌, ◌-◌, ◌<◌, length, arith}
use Rattle.tables.proofs.TableLaws.{stands-fits}
use Rattle.tables.proofs.WalkLaws.{passed_at, start-behind}
use Rattle.tables.proofs.follow.Goals as goal

pub overflow_cast-starts : goal.overflow_cast-starts
overflow_cast-starts c = omega (arith, stands-fits _ _ c.requires.s_value.1)

pub walk-requires-clause-s_value : goal.walk-requires-clause-s_value
walk-requires-clause-s_value c =
    let p = c.requires.s_value in
    let e : c.args.k.value - 1 + 1 ≡ c.args.k.value = omega arith in
    let r : c.args.k.value < length c.args.starts.now = omega arith in (
      rw c.from.ensures (start-behind _ _ (omega arith) p.0 p.1 p.2),
      omega (arith, c.requires.within.inside),
      passed_at c.requires.passed e r p.0 p.1,
    )
