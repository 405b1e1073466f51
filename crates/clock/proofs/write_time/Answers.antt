-- `clock::write_time` meets its contract: the seven characters are made, and go over the reply in one run.
use Rattle.std.proofs.Common.{arith}
use Rattle.std.proofs.lemmas.Grind.{common_steps}
use Rattle.chars.proofs.PutLaws.{part-whole}
use Rattle.model.specs.Clock.{time_chars}
use Rattle.model.proofs.Times.{ranges}
use Rattle.clock.proofs.write_time.Goals as goal

pub overflow_cast-cs : goal.overflow_cast-cs
overflow_cast-cs c = omega (arith, (ranges _ c.requires).day)

pub returns : goal.returns
unfolding time_chars
returns c = let n = ranges _ c.requires in grind (arith, common_steps, part-whole)
