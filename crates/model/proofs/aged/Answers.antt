-- `model::aged` meets its contract.
use borrow.Author.Tests.{le-leb, lt-leb}
use Rattle.model.specs.Control.{aged_of}
use Rattle.model.proofs.aged.Goals as goal

pub returns-then-sum : goal.returns-then-sum
unfolding aged_of
returns-then-sum c = simp (le-leb _ _ c.if-sum.true)

pub returns : goal.returns
unfolding aged_of
returns c = simp (lt-leb _ _ c.if-sum.false)
