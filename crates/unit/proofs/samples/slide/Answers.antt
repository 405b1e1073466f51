-- `unit::samples::slide` meets its contract: the words passed are down, and their sum is made. Assumes nothing.
use Rattle.std.proofs.Common.{◌≡◌, ◌+◌, ◌*◌, ◌≤◌, length, sym, arith}
use Rattle.chars.proofs.PutLaws.{copy_none}
use Rattle.unit.proofs.MeanLaws.{sum_none, slid-turn, sum_turn}
use Rattle.unit.proofs.samples.slide.Goals as goal

pub loop-i-init : goal.loop-i-init
loop-i-init c = (sym (copy_none _ _ _ _), sum_none _ _)

pub loop-i-preserved : goal.loop-i-preserved
loop-i-preserved c =
    let l = c.loop-i in
    let room : c.args.at + c.args.by + 2 * (l.i + 1) ≤ length c.args.records.now = omega arith in (
      slid-turn c.args.records.now c.args.at c.args.by l.i room l.invariant.0,
      sum_turn c.args.records.now c.args.at c.args.by l.i room l.invariant.0 (omega arith) l.invariant.1 (rw c.from_le_bytes.ensures at c.signed-sum.ensures),
    )

pub returns : goal.returns
returns c =
    let all : c.loop-i.i ≡ c.args.n = omega arith in
    record { value = rw all at c.loop-i.invariant.1; records_after = rw all at c.loop-i.invariant.0 }
