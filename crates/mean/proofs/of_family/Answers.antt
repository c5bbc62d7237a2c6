use mathlib.Core.Path.{ap, ◌∙◌}
use mathlib.Core.List.{List}
use Prim.Native.Nat.{ℕ}
use Rattle.std.proofs.Common.{Bor}
use Rattle.std.proofs.lemmas.Result.{err_from_is_err_and}
use Rattle.runs.proofs.Left.{cleared_lent}
use Rattle.mean.proofs.Calls.{clique_viewed, clique_admitted, mean_stopped, mean_ran}
use Rattle.mean.proofs.of_family.Goals as goal

pub returns-in_err-checked-clause-meets : goal.returns-in_err-checked-clause-meets
returns-in_err-checked-clause-meets c =
    let p = err_from_is_err_and c.from_residual.result c.from_residual.ensures.1 in
    rw (p.1, p.2) (mean_stopped _ _ _ _ _ _ (clique_viewed _ _ _ _ _ _ _ (c.view.ensures 0) c.in_err-checked.ensures.answer))

pub run-mean-requires : goal.run-mean-requires
run-mean-requires c =
    let o = c.in_ok-checked.ensures in
    clique_admitted _ _ _ _ _ _ _ _ _ (c.view.ensures 0) (ap (λ (b : Bor (List ℕ)). b.now) o.same) o.answer

pub returns-clause-meets : goal.returns-clause-meets
returns-clause-meets c =
    let o = c.in_ok-checked.ensures in
    let r = c.run-mean.ensures in
    mean_ran _ _ _ _ _ _ _ (clique_viewed _ _ _ _ _ _ _ (c.view.ensures 0) o.answer) _ _ (rw o.same at r.run)
    (c.clear.ensures.tables_after ∙ cleared_lent _ _ r.lent 0 0)
