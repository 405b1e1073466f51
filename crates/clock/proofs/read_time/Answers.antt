-- `clock::read_time` meets its contract: the clock is judged, then the count.
use Rattle.std.proofs.Common.{arith, rules}
use Rattle.std.proofs.lemmas.Grind.{common_steps}
use Rattle.model.specs.Scan.{counts, with_no_data}
use Rattle.model.specs.Clock.{read_time_of, time_chars}
use Rattle.clock.specs.Times.{time_read_of}
use Rattle.chars.proofs.PutLaws.{put-none}
use Rattle.clock.proofs.read_time.Goals as goal

pub returns-then-not-clock_fits : goal.returns-then-not-clock_fits
unfolding time_read_of
returns-then-not-clock_fits c = search (rules, put-none)

pub returns-then-not-is_empty : goal.returns-then-not-is_empty
unfolding time_read_of read_time_of with_no_data counts
returns-then-not-is_empty c = grind (arith, common_steps, put-none)

pub returns : goal.returns
unfolding time_read_of read_time_of with_no_data counts time_chars
returns c = grind (arith, common_steps)
