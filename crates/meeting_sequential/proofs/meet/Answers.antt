use mathlib.Core.Path.{ap, ◌∙◌}
use mathlib.Core.List.{List}
use Prim.Native.Nat.{ℕ}
use Rattle.std.proofs.Common.{Bor}
use Rattle.std.proofs.lemmas.Result.{err_from_is_err_and}
use Rattle.runs.proofs.Left.{cleared_lent}
use Rattle.meeting.proofs.Calls.{meet_stopped, meet_ran, pair_viewed, pair_admitted}
use Rattle.meeting_sequential.proofs.meet.Goals as goal

pub returns-in_err-checked-clause-meets : goal.returns-in_err-checked-clause-meets
returns-in_err-checked-clause-meets c =
    let p = err_from_is_err_and c.from_residual.result c.from_residual.ensures.1 in
    rw (p.1, p.2) (meet_stopped _ _ _ _ _ _ _ (pair_viewed _ _ _ _ _ _ _ (c.view.ensures 0) c.in_err-checked.ensures.answer))

pub run-met-requires : goal.run-met-requires
run-met-requires c =
    let o = c.in_ok-checked.ensures in
    pair_admitted _ _ _ _ _ _ _ _ _ (c.view.ensures 0) (ap (λ (b : Bor (List ℕ)). b.now) o.same) o.answer

pub returns-clause-meets : goal.returns-clause-meets
returns-clause-meets c =
    let o = c.in_ok-checked.ensures in
    let r = c.run-met.ensures in
    meet_ran _ _ _ _ _ _ _ _ (pair_viewed _ _ _ _ _ _ _ (c.view.ensures 0) o.answer) _ _ (rw o.same at r.run)
    (c.clear.ensures.tables_after ∙ cleared_lent _ _ r.lent 0 0)
