-- `unit::samples::take` meets its contract. Assumes nothing.
use Rattle.std.proofs.Common.{arith, rules}
use Rattle.unit.specs.Samples.{IsNumber}
use Rattle.unit.proofs.MeanLaws.{inside, mean_asked, waits-more, number_now, ready_now}
use Rattle.unit.proofs.samples.take.Goals as goal

pub overflow_add-k : goal.overflow_add-k
overflow_add-k c =
    let start = c.window_start-at.ensures.value in
    let window = c.window_of-n.ensures in
    let analog = c.analog_of-analog.ensures in
    let read = c.word_of-sample.ensures in
    let held = c.taken_of-held.ensures in
    let few = inside c.args.unit.now c.args.records.now c.args.place start window analog read held c.requires.1 c.requires.2 c.requires.3 in
    omega (arith, few.1, few.2)

pub put_word-requires : goal.put_word-requires
put_word-requires c =
    let start = c.window_start-at.ensures.value in
    let window = c.window_of-n.ensures in
    let analog = c.analog_of-analog.ensures in
    let read = c.word_of-sample.ensures in
    let held = c.taken_of-held.ensures in
    omega (arith, (inside c.args.unit.now c.args.records.now c.args.place start window analog read held c.requires.1 c.requires.2 c.requires.3).0)

pub returns-then-k-n : goal.returns-then-k-n
unfolding IsNumber
returns-then-k-n c =
    let start = c.window_start-at.ensures.value in
    let window = c.window_of-n.ensures in
    let analog = c.analog_of-analog.ensures in
    let read = c.word_of-sample.ensures in
    let held = c.taken_of-held.ensures in
    record { take_promise = waits-more c.args.unit.now c.args.records.now c.args.place start window analog read held c.requires.1 c.requires.2 c.requires.3 (λ i. search rules) c.args.number.0 c.if-k-n.true (rw c.from.ensures at c.put_word.ensures) c.put_taken.ensures; number = tt }

pub mean-x-requires : goal.mean-x-requires
mean-x-requires c =
    let start = c.window_start-at.ensures.value in
    let window = c.window_of-n.ensures in
    let analog = c.analog_of-analog.ensures in
    let read = c.word_of-sample.ensures in
    let held = c.taken_of-held.ensures in
    mean_asked c.args.unit.now c.args.records.now c.args.place start window analog read held c.requires.1 c.requires.2 c.requires.3 c.if-k-n.false

pub float_to_bits-x : goal.float_to_bits-x
float_to_bits-x c =
    let start = c.window_start-at.ensures.value in
    let window = c.window_of-n.ensures in
    let analog = c.analog_of-analog.ensures in
    let read = c.word_of-sample.ensures in
    let held = c.taken_of-held.ensures in
    number_now c.args.unit.now c.args.records.now c.args.place start window analog read held c.requires.1 c.requires.2 c.requires.3 c.if-k-n.false c.mean-x.ensures.value

pub returns : goal.returns
unfolding IsNumber
returns c =
    let start = c.window_start-at.ensures.value in
    let window = c.window_of-n.ensures in
    let analog = c.analog_of-analog.ensures in
    let read = c.word_of-sample.ensures in
    let held = c.taken_of-held.ensures in
    let all = c.if-k-n.false in
    let mean = c.mean-x.ensures in
    record { take_promise = ready_now c.args.unit.now c.args.records.now c.args.place start window analog read held c.requires.1 c.requires.2 c.requires.3 all c.args.number.0 mean.value mean.records_after c.put_taken-2.ensures c.put_value.ensures; number = number_now c.args.unit.now c.args.records.now c.args.place start window analog read held c.requires.1 c.requires.2 c.requires.3 all mean.value }
