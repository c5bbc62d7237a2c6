use mathlib.Core.Path.{refl, sym, ◌∙◌}
use native.Mathlib.Omega.{arith}
use Prim.Native.Nat.{◌*◌}
use Rattle.std.proofs.lemmas.Result.{err_from_is_err_and}
use Rattle.page.proofs.Filling.{part_length}
use Rattle.page.proofs.PageRows.{page_few}
use Rattle.page.proofs.Answered.{page_refused, count_bytes, page_short, room_passed, page_written}
use Rattle.page.proofs.write.Goals as goal

pub returns-in_err-admit : goal.returns-in_err-admit
returns-in_err-admit c =
    let p = err_from_is_err_and c.from_residual.result c.from_residual.ensures.1 in
    rw (p.1, p.2) (page_refused c.args.sheet.now c.args.lines.now _ _ (sym c.in_err-admit.ensures))

pub row_count-count-requires : goal.row_count-count-requires
row_count-count-requires c = omega (arith, page_few c.args.sheet.now c.args.lines.now (sym c.in_ok-admit.ensures), c.line_count-n.ensures)

pub overflow_mul-end : goal.overflow_mul-end
overflow_mul-end c =
    record {
      fits = omega (arith, page_few c.args.sheet.now c.args.lines.now (sym c.in_ok-admit.ensures), c.line_count-n.ensures, c.row_count-count.ensures.1);
    }

pub returns-in_err-require : goal.returns-in_err-require
returns-in_err-require c =
    let p = err_from_is_err_and c.from_residual-in_err-require.result c.from_residual-in_err-require.ensures.1 in rw (p.1, p.2)
    (page_short c.args.sheet.now c.args.lines.now c.args.out.now c.row_count-count.result _ (sym c.in_ok-admit.ensures) c.line_count-n.ensures
    c.row_count-count.ensures.0 _ c.in_err-require.ensures)

pub slice_bounds-put_page-end : goal.slice_bounds-put_page-end
slice_bounds-put_page-end c =
    room_passed c.args.sheet.now c.args.lines.now c.args.out.now c.row_count-count.result _ (sym c.in_ok-admit.ensures) c.line_count-n.ensures
    c.row_count-count.ensures.0 c.in_ok-require.ensures

pub put_page-requires : goal.put_page-requires
put_page-requires c =
    let s = c.args.sheet.now in
    let b = c.args.lines.now in
    let o = c.args.out.now in
    let m = c.row_count-count.result in
    let ok = sym c.in_ok-admit.ensures in
    let room = room_passed s b o m _ ok c.line_count-n.ensures c.row_count-count.ensures.0 c.in_ok-require.ensures in
    let long = count_bytes s b o m _ ok c.line_count-n.ensures c.row_count-count.ensures.0 in
    (ok, c.line_count-n.ensures, part_length o 0 (73 * m) (73 * m) (omega arith) room ∙ long)

pub returns : goal.returns
returns c =
    let s = c.args.sheet.now in
    let b = c.args.lines.now in
    let o = c.args.out.now in
    let m = c.row_count-count.result in
    let ok = sym c.in_ok-admit.ensures in
    let room = room_passed s b o m _ ok c.line_count-n.ensures c.row_count-count.ensures.0 c.in_ok-require.ensures in
    page_written s b o m _ ok c.line_count-n.ensures c.row_count-count.ensures.0 _ _ room c.put_page.ensures refl
