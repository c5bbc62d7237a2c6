use mathlib.Core.Path.{◌≡◌}
use lib.ListN.{length}
use Rattle.page.proofs.Steps.{LinesTo}
use Rattle.page.proofs.put_page.Given as goal

abbrev pub invariant-loop-j : goal.invariant-loop-j
invariant-loop-j l = LinesTo l.sheet l.lines l.out l.n l.at l.j × (length l.out ≡ length l.initial.out)
