use Rattle.std.proofs.Common.{◌≡◌, length}
use Rattle.layout.specs.Unit.{config_in}
use Rattle.tables.specs.Able.{Able}
use Rattle.tables.proofs.plans.judge.Given as goal

abbrev pub invariant-loop-k : goal.invariant-loop-k
invariant-loop-k l = (length l.able ≡ 16) × Able (config_in l.unit).inputs l.area l.able l.k
