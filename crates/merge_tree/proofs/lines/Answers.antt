use mathlib.Core.Path.{ap, ◌∙◌, subst}
use mathlib.Core.List.{List}
use lib.ListN.{length}
use Prim.Native.Nat.{ℕ}
use Rattle.std.proofs.Common.{Bor}
use Rattle.std.proofs.lemmas.Result.{err_from_is_err_and}
use Rattle.percolation.specs.Steps.{enough}
use Rattle.percolation.specs.Tree.{tree_bytes}
use Rattle.runs.specs.OnSheet.{RunMeets, slots_of}
use Rattle.runs.proofs.Admitted.{viewed, admitted}
use Rattle.runs.proofs.Calls.{call_stopped, call_ran}
use Rattle.runs.proofs.Left.{cleared_lent}
use Rattle.merge_tree.specs.OnSheet.{tree_of}
use Rattle.merge_tree.proofs.lines.Goals as goal

pub returns-in_err-checked-clause-meets : goal.returns-in_err-checked-clause-meets
returns-in_err-checked-clause-meets c =
    let p = err_from_is_err_and c.from_residual.result c.from_residual.ensures.1 in
    rw (p.1, p.2) (call_stopped _ _ _ _ _ c.args.out.now _ _ (viewed _ _ _ _ _ (c.view.ensures 0) c.in_err-checked.ensures.answer))

pub run-answer-requires : goal.run-answer-requires
run-answer-requires c =
    let b = ap (λ (x : Bor (List ℕ)). x.now) c.in_ok-checked.ensures.same in
    admitted _ _ _ _ _ _ _ (c.view.ensures 0) b c.in_ok-checked.ensures.answer

pub returns-clause-meets : goal.returns-clause-meets
returns-clause-meets c =
    let a = c.args in
    let r = c.run-answer.ensures in
    let b = ap (λ (x : Bor (List ℕ)). x.now) c.in_ok-checked.ensures.same in
    call_ran _ _ _ _ _ a.out.now _ _ _ (viewed _ _ _ _ _ (c.view.ensures 0) c.in_ok-checked.ensures.answer) _ _ _
    (subst (λ (s : List ℕ). RunMeets (enough (length a.tables.now.entries.now) (slots_of s a.k)) (length (tree_of s a.k)) (tree_bytes (tree_of s a.k))
    a.out.now c.run-answer.result c.run-answer.new.out) b r.run)
    (c.clear.ensures.tables_after ∙ cleared_lent _ _ r.lent 0 0)
