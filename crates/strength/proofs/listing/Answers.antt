use mathlib.Core.Path.{ap₂, ◌∙◌}
use Rattle.std.proofs.lemmas.Result.{err_from_is_err_and}
use Rattle.sheet.proofs.Said.{said_holds}
use Rattle.runs.proofs.Left.{cleared_lent}
use Rattle.strong_checks.specs.OnSheet.{clique_list}
use Rattle.strong_checks.proofs.Calls.{cleared_same, strength_viewed, strength_stopped, strength_ran}
use Rattle.strength.proofs.listing.Goals as goal

pub run-answer-requires : goal.run-answer-requires
run-answer-requires c =
    let v = c.view.ensures in
    let o = c.in_ok-checked.ensures in
    rw o.same (said_holds _ _ _ _ (strength_viewed _ _ _ _ _ _ _ _ _ c.level-level.ensures (ap₂ clique_list v.0 v.1) (c.view-2.ensures 0) o.answer)).0

pub returns-in_err-checked-clause-meets : goal.returns-in_err-checked-clause-meets
returns-in_err-checked-clause-meets c =
    let p = err_from_is_err_and c.from_residual.result c.from_residual.ensures.1 in
    let v = c.view.ensures in
    rw (p.1, p.2) (strength_stopped _ _ _ _ _ c.args.out.now _
    (strength_viewed _ _ _ _ _ _ _ _ _ c.level-level.ensures (ap₂ clique_list v.0 v.1) (c.view-2.ensures 0) c.in_err-checked.ensures.answer))

pub returns-clause-meets : goal.returns-clause-meets
returns-clause-meets c =
    let r = c.run-answer.ensures in
    let v = c.view.ensures in
    let o = c.in_ok-checked.ensures in
    strength_ran _ _ _ _ _ c.args.out.now _ _
    (strength_viewed _ _ _ _ _ _ _ _ _ c.level-level.ensures (ap₂ clique_list v.0 v.1) (c.view-2.ensures 0) o.answer) _ _ _ _ (rw o.same at r.runs)
    (c.clear_list.ensures.list_after ∙ cleared_same _ _ r.list)
    (c.clear.ensures.tables_after ∙ cleared_lent _ _ r.lent 0 0)
