use mathlib.Core.Path.{ap}
use lib.Dec.{leb}
use borrow.Author.Tests.{le-leb, lt-leb}
use Rattle.sets.proofs.Tests.{and_go}
use Rattle.percolation.specs.Ranges.{good_count}
use Rattle.checks.proofs.good_count.Goals as goal

pub returns-then-p-ge1 : goal.returns-then-p-ge1
unfolding good_count
returns-then-p-ge1 c =
    let p = c.args.p in
    and_go (leb 1 p) _ (le-leb 1 p c.if-p-ge1.true) (ap (leb p) c.most.ensures)

pub returns-else-p-ge1 : goal.returns-else-p-ge1
unfolding good_count
returns-else-p-ge1 c = simp (lt-leb _ _ c.if-p-ge1.false)
