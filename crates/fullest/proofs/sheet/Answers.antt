use mathlib.Core.Path.{◌≡◌}
use mathlib.Core.Bool.{true}
use native.Mathlib.Omega.{arith}
use Rattle.std.proofs.lemmas.Result.{err_from_is_err_and}
use Rattle.answers.proofs.Laws.{then_go, then_stop, unless_passed}
use Rattle.percolation.specs.Ranges.{narrow_count, good_k}
use Rattle.fullest.specs.Fullest.{check_full}
use Rattle.fullest.proofs.Full.{full_refused, full_written}
use Rattle.fullest.proofs.sheet.Goals as goal

pub returns-in_err-require : goal.returns-in_err-require
unfolding check_full
returns-in_err-require c =
    let p = err_from_is_err_and c.from_residual.result c.from_residual.ensures.1 in full_refused _ _ _ _ p.0 p.1 (grind (arith, then_stop))

pub returns-in_err-require-2 : goal.returns-in_err-require-2
unfolding check_full
returns-in_err-require-2 c =
    let p = err_from_is_err_and c.from_residual-in_err-require-2.result c.from_residual-in_err-require-2.ensures.1 in
    full_refused _ _ _ _ p.0 p.1 (grind (arith, then_go, then_stop))

pub returns : goal.returns
returns c =
    let n : narrow_count c.args.p ≡ true = grind (arith, unless_passed) in
    let g : good_k c.args.k ≡ true = grind (arith, unless_passed) in
    full_written _ _ _ _ _ n g _ c.name_parts.ensures c.write_weighed.ensures
