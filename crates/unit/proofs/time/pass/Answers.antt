-- `unit::time::pass` meets its contract: the core, then the port. Assumes nothing.
use Rattle.std.proofs.Common.{ap, ◌∙◌}
use Rattle.model.specs.Step.{core_after}
use Rattle.model.specs.declared.Core.{Core}
use Rattle.layout.proofs.UnitLaws.{numbers-left, numbers_only, numbers_on}
use Rattle.layout.proofs.NumbersLaws.{readable-written}
use Rattle.layout.proofs.PlaceLaws.{core-written, port-written}
use Rattle.unit.proofs.time.pass.Goals as goal

pub returns : goal.returns
returns c =
    let core = c.core_after.ensures ∙ ap (λ (k : Core). core_after k c.args.ms) c.core_in-core.ensures in
    let kept = c.keep_core.ensures in
    let waited = c.wait.ensures in (
      λ stands.
          let moved = core-written (readable-written _ stands) (numbers-left _ _ kept.0) kept.1 in
          rw (← core, ← moved.means.port) (port-written moved (numbers-left _ _ waited)),
      numbers_on _ _ _ (numbers_only _ _ kept.0) (numbers_only _ _ waited),
    )
