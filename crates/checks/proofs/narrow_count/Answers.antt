use borrow.Author.Tests.{le-leb, lt-leb}
use Rattle.percolation.specs.Ranges.{narrow_count}
use Rattle.checks.proofs.narrow_count.Goals as goal

pub returns-then-p-ge1 : goal.returns-then-p-ge1
unfolding narrow_count
returns-then-p-ge1 c = simp (le-leb _ _ c.if-p-ge1.true)

pub returns-else-p-ge1 : goal.returns-else-p-ge1
unfolding narrow_count
returns-else-p-ge1 c = simp (lt-leb _ _ c.if-p-ge1.false)
