use mathlib.Core.Path.{sym, ◌∙◌}
use Rattle.sets.proofs.Tests.{and_stop, and_go}
use Rattle.percolation.specs.Links.{inside}
use Rattle.checks.proofs.has_both.Goals as goal

pub returns-then-has : goal.returns-then-has
unfolding inside
returns-then-has c = and_go _ _ (sym c.has.ensures ∙ c.if-has.true) c.has-then-has.ensures

pub returns-else-has : goal.returns-else-has
unfolding inside
returns-else-has c = c.if-has.false ∙ and_stop _ _ (sym c.has.ensures ∙ c.if-has.false)
