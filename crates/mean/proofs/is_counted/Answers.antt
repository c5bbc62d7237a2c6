use mathlib.Core.Path.{refl}
use borrow.Author.Tests.{eq-eqb, ne_eqb}
use Rattle.sets.proofs.Tests.{cond_go, cond_stop}
use Rattle.mean.proofs.Adding.{counts_at}
use Rattle.mean.proofs.is_counted.Goals as goal

pub returns-then-k-eq2 : goal.returns-then-k-eq2
returns-then-k-eq2 c = counts_at _ _ _ _ _ _ (cond_go _ _ _ (eq-eqb _ 2 c.if-k-eq2.true) refl) c.at-row.ensures c.has.ensures

pub returns-else-k-eq2 : goal.returns-else-k-eq2
returns-else-k-eq2 c = counts_at _ _ _ _ _ _ (cond_stop _ _ _ (ne_eqb _ 2 c.if-k-eq2.false) refl) c.at-row.ensures c.has-else-k-eq2.ensures
