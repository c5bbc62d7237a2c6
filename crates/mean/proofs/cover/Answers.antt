use mathlib.Core.Path.{sym, ap, ◌∙◌}
use lib.ListN.{length}
use borrow.Author.Tests.{eq-eqb, ne_eqb}
use Rattle.mean.proofs.Covering.{covered_none, covered_yes, covered_no}
use Rattle.mean.proofs.cover.Goals as goal
use Rattle.mean.proofs.cover.Goals.{then-root-r, else-root-r}

pub loop-i-init : goal.loop-i-init
loop-i-init c = (ap length c.no_rows-covered.ensures, covered_none _ _ _ _ c.no_rows-covered.ensures)

pub loop-i-preserved : goal.loop-i-preserved
loop-i-preserved c =
    let l = c.loop-i in
    elim c.if-root-r.branch [
      | then-root-r w ↦
          rw w.covered-is (
            w.gain.auto.covered ∙ l.invariant.0,
            covered_yes _ _ _ _ _ l.invariant.1 (eq-eqb _ _ (sym c.root.ensures.0 ∙ w.if-root-r.true)) _ w.at.ensures _ w.gain.ensures,
          )
      | else-root-r w ↦
          rw w.covered-is (l.invariant.0, covered_no _ _ _ _ _ l.invariant.1 (ne_eqb _ _ (λ e. w.if-root-r.false (c.root.ensures.0 ∙ e))))
    ]
