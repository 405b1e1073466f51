-- `serve::line::judged` meets its contract. Assumes nothing.
use mathlib.Core.Path.{sym, ap, ◌∙◌}
use Rattle.model.proofs.PairLaws.{heard-pair}
use Rattle.layout.specs.Numbers.{port_in}
use Rattle.layout.proofs.NumbersLaws.{readable-written}
use Rattle.layout.specs.Unit.{config_in, numbers_in}
use Rattle.layout.specs.Kept.{inner_in}
use Rattle.layout.proofs.UnitLaws.{numbers_only}
use Rattle.serve.proofs.CommandLaws.{unshifted_numbers}
use Rattle.serve.proofs.StretchLaws.{unit-marked, judged_broken, judged_wrong}
use Rattle.serve.proofs.PairedLaws.{pair_reach, Onward, onward_whole, onward_taken, onward_refused}
use Rattle.serve.proofs.line.judged.Goals as goal
use Rattle.serve.proofs.line.judged.Goals.{in-Whole, in-Pair+then-ahead, in-Pair+else-ahead, After-framed-arg-6-1}
use lib.ListN.{length}
use Rattle.layout.specs.Kept.{owned_of}

-- whichever frame is left
onward : (c : goal.After-framed-arg-6-1) → Onward c.args.lag c.args.s.now (owned_of c.args.unit.now c.args.block.now c.args.records.now)
    (owned_of c.match-hear.unit c.args.block.now c.args.records.now) c.args.buffer.now c.match-hear.left.0.now c.match-hear.left.1
onward c =
    let s = c.args in
    let heard = sym c.hear.ensures in
    elim c.match-hear.branch [
      | in-Whole w ↦ rw (w.unit-is, w.left-is) (onward_whole s.lag s.s.now _ _ _ c.requires.1 (heard ∙ w.in-Whole.is))
      | in-Pair+then-ahead w ↦
          rw (w.unit-is, w.left-is, w.split_at.ensures.back)
          (onward_taken s.lag s.s.now _ _ (heard-pair _ _ _ (heard ∙ w.in-Pair.is)) _ _ _ _ _ c.requires.1 c.requires.0 (rw w.split_at.ensures.front at w.ahead.ensures) w.if-ahead.true)
      | in-Pair+else-ahead w ↦
          rw (w.unit-is, w.left-is, w.split_at.ensures.front)
          (onward_refused s.lag s.s.now _ _ (heard-pair _ _ _ (heard ∙ w.in-Pair.is)) _ _ _ _ _ c.requires.1 c.requires.0 (rw w.split_at.ensures.front at w.ahead.ensures) w.if-ahead.false)
    ]

pub split_at-requires : goal.split_at-requires
split_at-requires c = pair_reach _ _ _ (heard-pair c.args.s.now _ _ (sym c.hear.ensures ∙ c.in-Pair.is))

pub ahead-requires : goal.ahead-requires
ahead-requires c =
    let p = heard-pair c.args.s.now _ _ (sym c.hear.ensures ∙ c.in-Pair.is) in
    (ap length c.split_at.ensures.front ∙ p.write.count, p.writes.0, p.writes.1)

pub framed-requires : goal.framed-requires
framed-requires c = let left = onward c in (c.requires.0, left.clock, left.long)

pub returns-in-Broken : goal.returns-in-Broken
returns-in-Broken c =
    let u = c.args.unit.now in
    let ks = numbers_in u in
    let i = inner_in u c.args.block.now c.args.records.now in (
      λ y stands.
          unit-marked c.args.s.now _ u _ _ _
          (judged_broken (config_in u) i c.args.lag c.args.s.now (port_in ks).mark (port_in ks) (readable-written ks stands) (sym c.hear.ensures ∙ c.in-Broken.is) c.quiet.ensures)
          c.marked.ensures,
      (unshifted_numbers u _ (numbers_only _ _ c.marked.ensures.1)).steady,
    )

pub returns-in-Wrong : goal.returns-in-Wrong
returns-in-Wrong c =
    let u = c.args.unit.now in
    let ks = numbers_in u in
    let i = inner_in u c.args.block.now c.args.records.now in (
      λ y stands.
          unit-marked c.args.s.now _ u _ _ _
          (judged_wrong (config_in u) i c.args.lag c.args.s.now (port_in ks).mark (port_in ks) (readable-written ks stands) (sym c.hear.ensures ∙ c.in-Wrong.is) c.quiet-in-Wrong.ensures)
          c.marked-in-Wrong.ensures,
      (unshifted_numbers u _ (numbers_only _ _ c.marked-in-Wrong.ensures.1)).steady,
    )

pub returns : goal.returns
returns c = (onward ((goal.at.returns c).After-framed-arg-6-1)).makes _ _ c.framed.ensures
