use mathlib.Core.Bool.{not}
use mathlib.Core.Path.{ap}
use Rattle.std.proofs.lemmas.Result.{err_from_is_err_and}
use Rattle.strong_checks.proofs.Calls.{measure_weakest, measure_stop, measure_past}
use Rattle.strong_checks.proofs.check_measure.Goals as goal

pub returns-in-Weakest : goal.returns-in-Weakest
returns-in-Weakest c = measure_weakest _ _ _ c.in-Weakest.is

pub returns-in_err-require-in-Product : goal.returns-in_err-require-in-Product
returns-in_err-require-in-Product c =
    let p = err_from_is_err_and c.from_residual.result c.from_residual.ensures.1 in
    rw (p.1, p.2) (measure_stop _ _ _ c.in-Product.is _ _ c.in_err-require-in-Product.ensures)

pub returns-in_ok-require-in-Product : goal.returns-in_ok-require-in-Product
returns-in_ok-require-in-Product c = measure_past _ _ _ c.in-Product.is c.in_ok-require-in-Product.ensures _ _ (ap not c.is_nan.ensures.value) c.require-in-Product.ensures
