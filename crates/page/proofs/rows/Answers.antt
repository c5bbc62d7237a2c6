use mathlib.Core.Path.{sym}
use native.Mathlib.Omega.{arith}
use Rattle.std.proofs.lemmas.Result.{err_from_is_err_and}
use Rattle.page.proofs.PageRows.{page_few}
use Rattle.page.proofs.Answered.{rows_refused, rows_counted}
use Rattle.page.proofs.rows.Goals as goal

pub returns-in_err-admit : goal.returns-in_err-admit
returns-in_err-admit c =
    let p = err_from_is_err_and c.from_residual.result c.from_residual.ensures.1 in
    rw (p.1, p.2) (rows_refused c.args.sheet.now c.args.lines.now _ (sym c.in_err-admit.ensures))

pub row_count-requires : goal.row_count-requires
row_count-requires c = omega (arith, page_few c.args.sheet.now c.args.lines.now (sym c.in_ok-admit.ensures), c.line_count.ensures)

pub returns : goal.returns
returns c = rows_counted c.args.sheet.now c.args.lines.now _ _ (sym c.in_ok-admit.ensures) c.line_count.ensures c.row_count.ensures.0
