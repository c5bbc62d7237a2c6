use mathlib.Core.Path.{sym, ◌∙◌}
use native.Mathlib.Omega.{arith}
use Rattle.std.proofs.lemmas.Result.{err_from_is_err_and}
use Rattle.answers.proofs.Laws.{unless_passed}
use Rattle.percolation.proofs.Ranges.{good_k_lem}
use Rattle.subsets.proofs.Checks.{said_four, said_ten, says_count, bound_over, bound_at}
use Rattle.subsets.proofs.slot_bound.Goals as goal

pub returns-in_err-require : goal.returns-in_err-require
returns-in_err-require c =
    let e = err_from_is_err_and c.from_residual.result c.from_residual.ensures.1 in
    rw (e.1, e.2) (said_four _ _ _ _ (rw c.good_count.ensures at c.in_err-require.ensures))

pub returns-in_err-require-2 : goal.returns-in_err-require-2
returns-in_err-require-2 c =
    let r = c.from_residual-in_err-require-2 in
    let e = err_from_is_err_and r.result r.ensures.1 in
    rw (e.1, e.2) (said_ten _ _ _ (sym c.good_count.ensures ∙ unless_passed _ 4 0 (sym c.in_ok-require.ensures)) _ (rw c.good_k.ensures at c.in_err-require-2.ensures))

pub returns-then-p-k : goal.returns-then-p-k
returns-then-p-k c =
    let count = sym c.good_count.ensures ∙ unless_passed _ 4 0 (sym c.in_ok-require.ensures) in
    let size = sym c.good_k.ensures ∙ unless_passed _ 10 0 (sym c.in_ok-require-2.ensures) in
    says_count _ _ _ count size 0 (sym (bound_over _ _ c.if-p-k.true))

pub overflow_sub-k : goal.overflow_sub-k
overflow_sub-k c =
    omega (arith, (good_k_lem c.args.k (sym c.good_k.ensures ∙ unless_passed _ 10 0 (sym c.in_ok-require-2.ensures))).0)

pub returns : goal.returns
returns c =
    let count = sym c.good_count.ensures ∙ unless_passed _ 4 0 (sym c.in_ok-require.ensures) in
    let size = sym c.good_k.ensures ∙ unless_passed _ 10 0 (sym c.in_ok-require-2.ensures) in
    says_count _ _ _ count size c.subset_count.result (c.subset_count.ensures ∙ bound_at _ _ count size c.if-p-k.false)
