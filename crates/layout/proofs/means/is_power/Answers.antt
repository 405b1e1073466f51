-- `layout::means::is_power` meets its contract: a number with one bit is a power of two. Assumes nothing.
use native.Mathlib.Omega.{arith}
use Rattle.std.proofs.Common.{sym, ap, ◌∙◌}
use borrow.Author.Tests.{eq-eqb, lt-leb}
use Rattle.model.specs.Config.{is_power}
use Rattle.layout.proofs.MeansLaws.{power_bits, power_over, power_zero}
use Rattle.layout.proofs.means.is_power.Goals as goal

pub returns-then-n-le-SAMPLES : goal.returns-then-n-le-SAMPLES
returns-then-n-le-SAMPLES c = power_bits _ (omega arith) c.if-n-le-SAMPLES.true

pub returns-else-n-le-SAMPLES : goal.returns-else-n-le-SAMPLES
returns-else-n-le-SAMPLES c = lt-leb _ _ c.if-n-le-SAMPLES.false ∙ sym (power_over _ c.if-n-le-SAMPLES.false)

pub returns-else-n-ne0 : goal.returns-else-n-ne0
returns-else-n-ne0 c = rw (eq-eqb _ _ c.if-n-ne0.false) (sym (ap is_power c.if-n-ne0.false ∙ power_zero))
