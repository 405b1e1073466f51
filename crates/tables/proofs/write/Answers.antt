-- `tables::write` meets its contract. The invariant: the words of the first numbers are gathered. Assumes nothing.
use Rattle.std.proofs.Common.{◌≡◌, ◌<◌, length, arith}
use Rattle.chars.proofs.PutLaws.{part_none, part-whole, front_more}
use Rattle.chars.proofs.WordLaws.{length-word}
use Rattle.chars.proofs.GatherLaws.{gathered_none, gathered_more}
use Rattle.tables.proofs.TableLaws.{word_in_lem}
use Rattle.tables.proofs.write.Goals as goal

pub loop-number-init : goal.loop-number-init
loop-number-init c = (omega arith, rw part_none (gathered_none _ _ _))

pub loop-number-preserved : goal.loop-number-preserved
loop-number-preserved c =
    let k : c.loop-number.number-index < length c.args.numbers.now = omega arith in
    (omega arith, rw front_more (gathered_more c.loop-number.invariant.1 _ _ _ _ (word_in_lem _ _ c.word_of.ensures) c.put_word.ensures (rw length-word)))

pub returns-clause-gathered : goal.returns-clause-gathered
returns-clause-gathered c =
    let e : c.loop-number.number-index ≡ length c.args.numbers.now = omega arith in
    rw (part-whole _ _ e) at c.loop-number.invariant.1
