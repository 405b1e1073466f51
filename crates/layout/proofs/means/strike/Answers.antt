-- `layout::means::strike` meets its contract. Assumes nothing.
use mathlib.Core.Path.{sym, ◌∙◌}
use native.Mathlib.Omega.{arith}
use lib.Seq.{set_out}
use Rattle.layout.proofs.MeansLaws.{strike_on, strike_off}
use Rattle.layout.proofs.means.strike.Goals as goal

pub returns-then-window_of-taken_of : goal.returns-then-window_of-taken_of
returns-then-window_of-taken_of c = strike_off _ _ _ c.taken_of.ensures c.window_of.ensures c.if-window_of-taken_of.true

pub returns-then-n-lt128 : goal.returns-then-n-lt128
returns-then-n-lt128 c = strike_on _ _ _ c.taken_of.ensures c.window_of.ensures c.if-window_of-taken_of.false (c.from-n.ensures ∙ c.number_at.ensures)

pub returns-else-n-lt128 : goal.returns-else-n-lt128
returns-else-n-lt128 c = sym (set_out _ _ 0 (omega (arith, c.requires))) ∙ strike_on _ _ _ c.taken_of.ensures c.window_of.ensures c.if-window_of-taken_of.false (c.from-n.ensures ∙ c.number_at.ensures)
