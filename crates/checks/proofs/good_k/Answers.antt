use borrow.Author.Tests.{le-leb, lt-leb}
use Rattle.percolation.specs.Ranges.{good_k}
use Rattle.checks.proofs.good_k.Goals as goal

pub returns-then-k-ge2 : goal.returns-then-k-ge2
unfolding good_k
returns-then-k-ge2 c = simp (le-leb _ _ c.if-k-ge2.true)

pub returns-else-k-ge2 : goal.returns-else-k-ge2
unfolding good_k
returns-else-k-ge2 c = simp (lt-leb _ _ c.if-k-ge2.false)
