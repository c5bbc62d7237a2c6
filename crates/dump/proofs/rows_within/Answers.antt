use mathlib.Core.Path.{◌≡◌, sym, ◌∙◌}
use native.Mathlib.Omega.{arith}
use Rattle.std.proofs.lemmas.Result.{err_from_is_err_and}
use Rattle.answers.specs.Faults.{number_of}
use Rattle.answers.specs.Verdict.{accepted, refused}
use Rattle.answers.proofs.Laws.{order_stop}
use Rattle.dump.specs.Dump.{check_row}
use Rattle.dump.proofs.Rows.{row_test, rows_none, rows_passed}
use Rattle.dump.proofs.rows_within.Goals as goal

pub loop-i-init : goal.loop-i-init
loop-i-init c = rows_none _

pub returns-in_err-require : goal.returns-in_err-require
unfolding check_row
returns-in_err-require c =
    let d = c.args.d.now in
    let l = c.loop-i in
    let r = c.requires in
    let p = err_from_is_err_and c.from_residual.result c.from_residual.ensures.1 in
    let t = row_test d _ l.i c.args.p _ _ r.0 r.1 c.upto-all.ensures (c.from_word-s.ensures ∙ c.row.ensures.0) c.subset.ensures in
    let e : check_row d l.i ≡ refused (number_of p.0.fault) p.0.place = grind arith in
    rw p.1 (sym (order_stop (check_row d) c.args.n l.i _ _ c.loop-i-test.true l.invariant e))

pub loop-i-preserved : goal.loop-i-preserved
unfolding check_row
loop-i-preserved c =
    let d = c.args.d.now in
    let l = c.loop-i in
    let r = c.requires in
    let t = row_test d _ l.i c.args.p _ _ r.0 r.1 c.upto-all.ensures (c.from_word-s.ensures ∙ c.row.ensures.0) c.subset.ensures in
    let e : check_row d l.i ≡ accepted = grind arith in
    rows_passed d l.i l.invariant e
