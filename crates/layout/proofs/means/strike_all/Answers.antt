-- `layout::means::strike_all` meets its contract. Assumes nothing.
use Rattle.std.specs.Prelude.{◌≡◌}
use native.Mathlib.Omega.{arith}
use Rattle.layout.proofs.MeansLaws.{struck-none, struck-next}
use borrow.Author.Rules.{rules}
use Rattle.layout.proofs.means.strike_all.Goals as goal

pub loop-place-init : goal.loop-place-init
loop-place-init c = (omega arith, c.requires, struck-none _ _)

pub loop-place-preserved : goal.loop-place-preserved
loop-place-preserved c = (search rules, search rules, struck-next _ c.loop-place.place _ c.loop-place.invariant.2 c.strike.ensures)

pub returns : goal.returns
returns c =
    let e : c.loop-place.place ≡ 16 = omega arith in
    rw e at c.loop-place.invariant.2
