use mathlib.Core.Path.{ap, ◌∙◌}
use mathlib.Core.List.{List}
use Prim.Native.Nat.{ℕ}
use lib.ListN.{length}
use Rattle.runs.specs.Model.{rows_with}
use Rattle.journal.specs.Model.{readable}
use Rattle.journal.proofs.Replayed.{rows_next, rows_end}
use Rattle.journal.proofs.rows_of.Goals as goal

pub loop-e-init : goal.loop-e-init
loop-e-init c =
    let a = c.args in
    (ap (λ (R : List ℕ). rows_with R (readable a.p a.entries.now)) c.no_rows-rows.ensures, ap length c.no_rows-rows.ensures)

pub loop-e-preserved : goal.loop-e-preserved
loop-e-preserved c =
    let l = c.loop-e in
    (rows_next _ c.args.p l.rows _ l.e-index c.loop-e-test.true c.mark.ensures ∙ l.invariant.0, c.mark.auto.rows ∙ l.invariant.1)

pub returns : goal.returns
returns c = rows_end _ c.args.p c.loop-e.rows c.loop-e.e-index c.loop-e-test.false ∙ c.loop-e.invariant.0
