-- `serve::line::framed` meets its contract. Assumes nothing.
use mathlib.Core.Path.{sym, ◌∙◌}
use Rattle.layout.specs.Numbers.{port_in}
use Rattle.layout.proofs.NumbersLaws.{readable-written}
use Rattle.layout.specs.Unit.{config_in, numbers_in}
use Rattle.layout.specs.Kept.{inner_in}
use Rattle.layout.proofs.UnitLaws.{numbers_only}
use Rattle.serve.proofs.CommandLaws.{unshifted_numbers}
use Rattle.serve.proofs.KeptLaws.{steady_then}
use Rattle.serve.proofs.StretchLaws.{unit-marked, framed-own, framed-all, framed-other}
use Rattle.serve.proofs.line.framed.Goals as goal

pub returns-then-to-number_of : goal.returns-then-to-number_of
returns-then-to-number_of c =
    let u = c.args.unit.now in
    let ks = numbers_in u in
    let i = inner_in u c.args.block.now c.args.records.now in
    let done = c.served.ensures in (
      λ y stands.
          framed-own (config_in u) i c.args.lag c.args.s.now (port_in ks).mark (port_in ks) c.args.frame c.requires.2 c.data_of-body.ensures c.unit_of-to.ensures
          (c.if-to-number_of.true ∙ c.number_of.ensures) (done.0 y stands),
      done.1,
    )

pub returns-then-to-eq-ALL : goal.returns-then-to-eq-ALL
returns-then-to-eq-ALL c =
    let u = c.args.unit.now in
    let ks = numbers_in u in
    let i = inner_in u c.args.block.now c.args.records.now in
    let done = c.broadcast-made.ensures in (
      λ y stands.
          unit-marked c.args.s.now _ _ _ _ _
          (rw done.1.counts
          (framed-all (config_in u) i c.args.lag c.args.s.now (port_in ks).mark (port_in ks) c.args.frame c.requires.2 c.data_of-body.ensures c.unit_of-to.ensures
          (λ e. c.if-to-number_of.false (e ∙ sym c.number_of.ensures)) c.if-to-eq-ALL.true
          (done.0 c.args.block.now i.areas.samples i.history.files (port_in ks).mark c.args.buffer.now stands)))
          c.marked.ensures,
      steady_then u _ _ done.1.steady (unshifted_numbers _ _ (numbers_only _ _ c.marked.ensures.1)).steady,
    )

pub returns : goal.returns
returns c =
    let u = c.args.unit.now in
    let ks = numbers_in u in
    let i = inner_in u c.args.block.now c.args.records.now in (
      λ y stands.
          unit-marked c.args.s.now _ u _ _ _
          (framed-other (config_in u) i c.args.lag c.args.s.now (port_in ks).mark (port_in ks) c.args.frame c.requires.2 c.data_of-body.ensures c.unit_of-to.ensures (readable-written ks stands)
          (λ e. c.if-to-number_of.false (e ∙ sym c.number_of.ensures)) c.if-to-eq-ALL.false
          c.quiet.ensures)
          c.marked-2.ensures,
      (unshifted_numbers u _ (numbers_only _ _ c.marked-2.ensures.1)).steady,
    )
