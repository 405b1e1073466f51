-- `unit::start::fresh` meets its contract. Assumes nothing.
use Rattle.std.proofs.Common.{rules}
use Rattle.unit.proofs.FreshLaws.{fresh_kept}
use Rattle.unit.proofs.start.fresh.Goals as goal

pub returns : goal.returns
returns c =
    let m = fresh_kept _ c.told-config c.begin.ensures c.keep_clock.ensures.0 c.keep_configure.ensures c.replan.ensures in
    record { means = m.0; long_is = m.1; block-cleared = c.fill.ensures.after (λ y e. search rules) }
