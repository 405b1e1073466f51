-- The bench configuration: one computed test.
use Rattle.bench.proofs.BenchLaws.{bench_given}
use Rattle.bench.proofs.answers.configured.Goals as goal

pub returns : goal.returns
returns c = bench_given c.name_unit.ensures c.equip_input.ensures c.equip_input-2.ensures
