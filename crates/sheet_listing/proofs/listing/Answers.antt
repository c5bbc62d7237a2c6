use mathlib.Core.Path.{ap, ◌∙◌}
use mathlib.Core.List.{List}
use Prim.Native.Nat.{ℕ}
use Rattle.std.proofs.Common.{Bor}
use Rattle.std.proofs.lemmas.Result.{err_from_is_err_and}
use Rattle.runs.proofs.Admitted.{viewed, admitted}
use Rattle.runs.proofs.Calls.{call_stopped, call_ran}
use Rattle.runs.proofs.Left.{cleared_lent}
use Rattle.sheet_listing.proofs.listing.Goals as goal

pub returns-in_err-checked-clause-meets : goal.returns-in_err-checked-clause-meets
returns-in_err-checked-clause-meets c =
    let p = err_from_is_err_and c.from_residual.result c.from_residual.ensures.1 in
    rw (p.1, p.2) (call_stopped _ _ _ _ _ c.args.out.now _ _ (viewed _ _ _ _ _ (c.view.ensures 0) c.in_err-checked.ensures.answer))

pub run-answer-requires : goal.run-answer-requires
run-answer-requires c =
    let o = c.in_ok-checked.ensures in
    (admitted _ _ _ _ _ _ _ (c.view.ensures 0) (ap (λ (b : Bor (List ℕ)). b.now) o.same) o.answer, c.heavy-n.ensures.1)

pub returns-clause-meets : goal.returns-clause-meets
returns-clause-meets c =
    let o = c.in_ok-checked.ensures in
    let r = c.run-answer.ensures in
    let made = r.runs c.args.t c.heavy-n.ensures.0 in
    call_ran _ _ _ _ _ c.args.out.now _ _ _ (viewed _ _ _ _ _ (c.view.ensures 0) o.answer) _ _ _ (rw o.same at made)
    (c.clear.ensures.tables_after ∙ cleared_lent _ _ r.lent 0 0)
