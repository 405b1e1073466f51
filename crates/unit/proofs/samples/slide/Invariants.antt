use Rattle.std.proofs.Common.{◌≡◌, ◌+◌, ◌*◌}
use lib.Ieee.{binary32, of_int}
use Rattle.chars.specs.Put.{put, part}
use Rattle.model.specs.Means.{sum_of}
use Rattle.layout.specs.Records.{words_from}
use Rattle.unit.proofs.samples.slide.Given as goal

abbrev pub invariant-loop-i : goal.invariant-loop-i
invariant-loop-i l = (l.records ≡ put l.initial.records l.at (part l.initial.records (l.at + l.by) (2 * l.i))) × (l.sum ≡ of_int binary32 (sum_of (words_from l.initial.records (l.at + l.by) l.i)))
