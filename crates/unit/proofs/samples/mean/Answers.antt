-- `unit::samples::mean` meets its contract. Assumes nothing.
use Rattle.std.proofs.Common.{arith, rules}
use Rattle.unit.proofs.MeanLaws.{power_some, slide_asked, mean_is, all-put}
use Rattle.unit.proofs.samples.mean.Goals as goal

pub overflow_sub-older : goal.overflow_sub-older
overflow_sub-older c = omega (arith, power_some c.args.n c.requires.0)

pub slide-sum-requires : goal.slide-sum-requires
slide-sum-requires c =
    rw (c.from-older.ensures, c.from.ensures)
    (slide_asked c.args.records.now (λ i. search rules) c.args.at c.args.sample c.args.held c.args.n c.requires.0 c.requires.1 c.requires.2 c.requires.3)

pub put_word-requires : goal.put_word-requires
put_word-requires c = omega (arith, power_some c.args.n c.requires.0)

pub returns-clause-value : goal.returns-clause-value
returns-clause-value c =
    rw c.from-2.ensures
    (mean_is c.args.records.now (λ i. search rules) c.args.at c.args.sample c.args.held c.args.n c.requires.0 c.requires.1 c.requires.2 c.requires.3
    (rw (c.from-older.ensures, c.from.ensures) at c.slide-sum.ensures.value) c.signed.ensures
    (rw (c.from-older.ensures, c.from.ensures) at c.slide-sum.ensures.records_after) (rw c.from-older.ensures at c.put_word.ensures))

pub returns-clause-records_after : goal.returns-clause-records_after
returns-clause-records_after c =
    all-put c.args.records.now (λ i. search rules) c.args.at c.args.sample c.args.held c.args.n c.requires.0 c.requires.1 c.requires.2 c.requires.3
    (rw (c.from-older.ensures, c.from.ensures) at c.slide-sum.ensures.value) c.signed.ensures
    (rw (c.from-older.ensures, c.from.ensures) at c.slide-sum.ensures.records_after) (rw c.from-older.ensures at c.put_word.ensures)
