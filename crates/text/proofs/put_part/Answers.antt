use lib.ListN.{length-append}
use borrow.Author.Tests.{leb-true}
use Rattle.std.proofs.lemmas.Result.{err_from_is_err_and}
use Rattle.answers.proofs.Laws.{then_go, then_stop, unless_passed}
use Rattle.text.proofs.PartLaws.{part_5, part_4, is_new, part_check, part_refused, part_taken, slot_written}
use native.Mathlib.Omega.{arith}
use mathlib.Core.List.{[], ◌∷◌}
use Prim.Native.Nat.{◌+◌, ◌*◌, ◌-◌}
use mathlib.Core.Path.{sym, ◌∙◌}
use Rattle.text.proofs.put_part.Goals as goal

pub returns-in_err-require : goal.returns-in_err-require
returns-in_err-require c = λ N h l. let p = err_from_is_err_and c.from_residual.result c.from_residual.ensures.1 in rw (p.1, p.2)
    (part_refused N _ _ _ _ _ (part_5 N _ _ _ _ c.is_name.ensures ∙ then_stop _ _ _ _ (sym c.in_err-require.ensures)))

pub returns-in_err-require-2 : goal.returns-in_err-require-2
returns-in_err-require-2 c = λ N h l.
    let p = err_from_is_err_and c.from_residual-in_err-require-2.result c.from_residual-in_err-require-2.ensures.1 in
    rw (p.1, p.2)
    (part_refused N _ _ _ _ _ (part_4 N _ _ _ _ _ _ l c.is_name.ensures c.narrow_count.ensures ∙ then_go _ _ (sym c.in_ok-require.ensures)
    ∙ then_stop _ _ _ _ (sym c.in_err-require-2.ensures)))

pub returns-in_err-require-3 : goal.returns-in_err-require-3
returns-in_err-require-3 c = λ N h l.
    let p = err_from_is_err_and c.from_residual-in_err-require-3.result c.from_residual-in_err-require-3.ensures.1 in
    rw (p.1, p.2)
    (part_refused N _ _ _ _ _ (part_check N _ _ _ _ _ _ _ l c.is_name.ensures c.narrow_count.ensures (λ b. is_new N _ _ _ c.is_none.ensures (c.find_name.ensures.first N h l b))
    ∙ then_go _ _ (sym c.in_ok-require.ensures) ∙ then_go _ _ (sym c.in_ok-require-2.ensures) ∙ then_stop _ _ _ _ (sym c.in_err-require-3.ensures)))

pub returns-in_err-require-4 : goal.returns-in_err-require-4
returns-in_err-require-4 c = λ N h l.
    let p = err_from_is_err_and c.from_residual-in_err-require-4.result c.from_residual-in_err-require-4.ensures.1 in
    rw (p.1, p.2)
    (part_refused N _ _ _ _ _ (part_check N _ _ _ _ _ _ _ l c.is_name.ensures c.narrow_count.ensures (λ b. is_new N _ _ _ c.is_none.ensures (c.find_name.ensures.first N h l b))
    ∙ then_go _ _ (sym c.in_ok-require.ensures) ∙ then_go _ _ (sym c.in_ok-require-2.ensures) ∙ then_go _ _ (sym c.in_ok-require-3.ensures)
    ∙ sym c.in_err-require-4.ensures))

pub slice_bounds-put_name-end : goal.slice_bounds-put_name-end
slice_bounds-put_name-end c = leb-true _ _ (unless_passed _ _ _ (sym c.in_ok-require-4.ensures))

pub returns : goal.returns
returns c = λ N h l. let a = c.args in
    part_taken N _ _ a.names.now _ _
    (part_check N _ _ _ _ _ _ _ l c.is_name.ensures c.narrow_count.ensures (λ b. is_new N _ _ _ c.is_none.ensures (c.find_name.ensures.first N h l b))
    ∙ then_go _ _ (sym c.in_ok-require.ensures) ∙ then_go _ _ (sym c.in_ok-require-2.ensures) ∙ then_go _ _ (sym c.in_ok-require-3.ensures)
    ∙ sym c.in_ok-require-4.ensures)
    (omega (arith, length-append N (a.name.now ∷ [])))
    (slot_written N a.name.now a.names.now _ a.p (8 * a.p + 8 - 8 * a.p) h l (omega arith) (leb-true _ _ (unless_passed _ _ _ (sym c.in_ok-require-4.ensures))) c.put_name.ensures)
