-- `tables::standing` meets its contract. Assumes nothing.
use Rattle.std.proofs.Common.{sym, arith}
use Rattle.tables.proofs.TableLaws.{stands-fits, table_present}
use Rattle.tables.proofs.standing.Goals as goal

pub bounds-area-s : goal.bounds-area-s
bounds-area-s c = omega (arith, stands-fits _ _ c.requires)

pub overflow_add-result : goal.overflow_add-result
overflow_add-result c = omega (arith, stands-fits _ _ c.requires)

pub overflow_add-result-2 : goal.overflow_add-result-2
overflow_add-result-2 c = omega (arith, stands-fits _ _ c.requires)

pub bounds-area-s-2 : goal.bounds-area-s-2
bounds-area-s-2 c = omega (arith, stands-fits _ _ c.requires)

pub returns : goal.returns
returns c = record { value = sym (table_present _ _ c.requires); within = record { inside = omega (arith, stands-fits _ _ c.requires) } }
