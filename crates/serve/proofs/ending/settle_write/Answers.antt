-- `serve::ending::settle_write` meets its contract: a WRITE taken, no write, the frame's master's and another's. Assumes nothing.
use mathlib.Core.Path.{◌≡◌, sym}
use Rattle.std.proofs.Common.{arith}
use Rattle.std.proofs.lemmas.Grind.{common_steps}
use Rattle.std.specs.Prelude.{None}
use Rattle.layout.proofs.UnitLaws.{numbers-left, numbers_only, renumbered_same}
use Rattle.model.specs.Blocks.{dropped}
use Rattle.model.specs.declared.Outcome.TheVariants.{WriteTaken}
use Rattle.serve.proofs.OutcomeLaws.{numbers-tell}
use Rattle.layout.specs.Numbers.{core_in}
use Rattle.layout.proofs.NumbersLaws.{readable-written}
use Rattle.layout.proofs.PlaceLaws.{write-written}
use Rattle.serve.proofs.ending.settle_write.Goals as goal

pub returns-then-eq : goal.returns-then-eq
returns-then-eq c = (λ stands. rw (numbers-tell _ WriteTaken c.eq.ensures c.if-eq.true) (readable-written _ stands), renumbered_same _)

pub returns-then-is_some_and : goal.returns-then-is_some_and
unfolding dropped core_in
returns-then-is_some_and c =
    let gone : dropped c.write_kept.result c.master_of-master.result ≡ None = grind (arith, common_steps) in (
      λ stands.
          rw (numbers-tell _ WriteTaken c.eq.ensures c.if-eq.false, ← c.write_kept.ensures, ← c.master_of-master.ensures, gone)
          (write-written (readable-written _ stands) (numbers-left _ _ c.keep_write.ensures.0, c.keep_write.ensures.1)),
      numbers_only _ _ c.keep_write.ensures.0,
    )

pub returns-else-is_some_and : goal.returns-else-is_some_and
unfolding dropped core_in
returns-else-is_some_and c =
    let stays : dropped c.write_kept.result c.master_of-master.result ≡ c.write_kept.result = grind (arith, common_steps) in (
      λ stands.
          rw (numbers-tell _ WriteTaken c.eq.ensures c.if-eq.false, ← c.write_kept.ensures, ← c.master_of-master.ensures, stays)
          (rw (sym c.write_kept.ensures) at (readable-written _ stands)),
      renumbered_same _,
    )
