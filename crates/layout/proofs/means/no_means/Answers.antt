-- `layout::means::no_means` meets its contract: what the loop has joined is 0 where no place up to here asks for anything. Assumes nothing.
use native.Mathlib.Omega.{arith}
use Rattle.layout.proofs.JudgedLaws.{both_start, both_next, both_done}
use borrow.Author.Rules.{rules}
use Rattle.layout.proofs.means.no_means.Goals as goal

pub loop-place-init : goal.loop-place-init
loop-place-init c = (search rules, both_start _ _)

pub loop-place-preserved : goal.loop-place-preserved
loop-place-preserved c = (search rules, both_next _ _ _ c.loop-place.any _ c.loop-place.invariant.1 c.asked_at-any.ensures)

pub returns : goal.returns
returns c = both_done _ _ c.loop-place.invariant.1 (omega arith)
