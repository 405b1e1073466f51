-- `serve::broadcast::broadcast_step` meets its contract. Assumes nothing.
use Rattle.std.specs.Prelude.{[]}
use Rattle.model.specs.Frame.{asked}
use Rattle.layout.specs.Numbers.{core_in}
use Rattle.layout.proofs.NumbersLaws.{readable-written}
use Rattle.layout.specs.Unit.{config_in, numbers_in}
use Rattle.layout.specs.Kept.{areas_in, inner_by}
use Rattle.serve.proofs.CommandLaws.{unshifted, broadcast_common, broadcast_not}
use Rattle.serve.proofs.BroadcastLaws.{stirs, stirs_refused}
use Rattle.serve.proofs.broadcast.broadcast_step.Goals as goal

pub returns-then-frame : goal.returns-then-frame
returns-then-frame c =
    let u = c.args.unit.now in
    let q = asked c.args.frame c.args.body.now in
    let k = core_in (numbers_in c.args.unit.now) in (
      λ block ss stands.
          let a = areas_in u block ss in
          stirs_refused k a (broadcast_not (config_in u) k a c.args.lag q c.if-frame.true) c.from.ensures (readable-written _ stands),
      unshifted u,
    )

pub returns : goal.returns
returns c =
    let u = c.args.unit.now in
    let q = asked c.args.frame c.args.body.now in
    let k = core_in (numbers_in c.args.unit.now) in
    let done = c.common.ensures in (
      λ block ss stands.
          rw (broadcast_common (config_in u) k (areas_in u block ss) c.args.lag q c.if-frame.false) (stirs (inner_by u block ss []) (done.0 block ss [] stands)),
      done.1,
    )
