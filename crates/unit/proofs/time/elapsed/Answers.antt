-- `unit::time::elapsed` meets its contract. Assumes nothing.
use Rattle.std.proofs.Common.{◌≡◌, refl, rules}
use Rattle.model.specs.Port.{silent_after}
use Rattle.model.specs.Step.{core_after}
use Rattle.model.specs.declared.Outcome.TheVariants.{Done}
use Rattle.layout.specs.Numbers.{core_in, memory_in, port_in}
use Rattle.layout.specs.Unit.{config_in, numbers_in}
use Rattle.serve.specs.Promises.{NumbersPromise}
use Rattle.layout.specs.Kept.{owned_of, kept_in}
use Rattle.serve.proofs.FitLaws.{judged-stands, judged-fits, stands-readable}
use Rattle.model.specs.Run.{short}
use Rattle.unit.proofs.HeedLaws.{heeds-time}
use Rattle.unit.proofs.EventLaws.{event-means, event-heeded}
use Rattle.unit.proofs.time.elapsed.Goals as goal

pub returns : goal.returns
unfolding short
returns c =
    let x = owned_of c.args.unit.now c.args.block.now c.args.records.now in
    let ks = numbers_in x.unit in
    event-heeded x _ refl (λ t.
    let stands = judged-stands x refl refl refl t in
    let d = c.heed.ensures.done t in
    let done : c.heed.result ≡ Done = search rules in
    let passed : NumbersPromise x.unit c.heed.new.unit (core_after (core_in ks) c.args.ms) (memory_in ks) (silent_after (port_in ks) c.args.ms) = search rules in
    rw done (event-means x _ _ _ stands passed.1.means refl refl passed.1.long
    (heeds-time (config_in x.unit) (kept_in x) c.args.ms (judged-fits x refl refl refl t) refl refl)
    (passed.0 (stands-readable x stands)))) c.heed.ensures.away
