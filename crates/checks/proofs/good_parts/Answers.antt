use borrow.Author.Tests.{lt-ltb, le-ltb}
use Rattle.percolation.specs.Steps.{good_parts}
use Rattle.sets.proofs.Tests.{no_and}
use Rattle.checks.proofs.good_parts.Goals as goal

pub returns-then-link-p-2 : goal.returns-then-link-p-2
unfolding good_parts
returns-then-link-p-2 c = simp (lt-ltb _ _ c.if-link-p.true, lt-ltb _ _ c.if-link-p-2.true)

pub returns-else-link-p-2 : goal.returns-else-link-p-2
unfolding good_parts
returns-else-link-p-2 c = simp (le-ltb _ _ c.if-link-p-2.false, no_and)

pub returns-else-link-p : goal.returns-else-link-p
unfolding good_parts
returns-else-link-p c = simp (le-ltb _ _ c.if-link-p.false)
