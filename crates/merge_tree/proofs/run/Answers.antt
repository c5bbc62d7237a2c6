use mathlib.Core.Path.{sym, ap, ◌∙◌}
use mathlib.Core.Bool.{Bool}
use native.Mathlib.Omega.{arith}
use Rattle.std.proofs.lemmas.Result.{err_from_is_err_and}
use Rattle.answers.specs.Verdict.{unless}
use Rattle.answers.proofs.Laws.{unless_passed}
use Rattle.percolation.proofs.Ranges.{good_k_lem}
use Rattle.slots.proofs.Lengths.{room_enough, same_room}
use Rattle.runs.specs.OnSheet.{slots_of}
use Rattle.runs.proofs.Admitted.{call_k}
use Rattle.runs.proofs.Calls.{run_refused}
use Rattle.merge_tree.specs.OnSheet.{tree_of}
use Rattle.merge_tree.proofs.Growing.{grow_again, grow_full, grow_room, grow_whole, told_slots}
use Rattle.merge_tree.proofs.run.Goals as goal

pub has_slots-fits-requires : goal.has_slots-fits-requires
has_slots-fits-requires c = (omega (arith, c.args.sheet.counted.1), (good_k_lem _ (call_k _ _ _ c.requires)).0)

pub returns-in_err-require-clause-run : goal.returns-in_err-require-clause-run
returns-in_err-require-clause-run c =
    let p = err_from_is_err_and c.from_residual.result c.from_residual.ensures.1 in
    let f = told_slots c.args.sheet.bytes.now c.args.k _ _ (c.view-view.ensures 0) _ c.args.sheet.counted.1 _ c.has_slots-fits.ensures in
    rw (p.1, p.2) (run_refused _ _ _ c.args.out.now _ (c.in_err-require.ensures ∙ ap (λ (b : Bool). unless b 15 0) f))

pub count_tree-n-requires : goal.count_tree-n-requires
count_tree-n-requires c =
    let f = told_slots c.args.sheet.bytes.now c.args.k _ _ (c.view-view.ensures 0) _ c.args.sheet.counted.1 _ c.has_slots-fits.ensures in
    (c.requires, room_enough _ _ (sym f ∙ unless_passed _ 15 0 (sym c.in_ok-require.ensures)))

pub returns-in_err-require-2-clause-run : goal.returns-in_err-require-2-clause-run
unfolding tree_of
returns-in_err-require-2-clause-run c =
    let a = c.args in
    let p = err_from_is_err_and c.from_residual-in_err-require-2.result c.from_residual-in_err-require-2.ensures.1 in
    let f = told_slots a.sheet.bytes.now a.k _ _ (c.view-view.ensures 0) _ c.args.sheet.counted.1 _ c.has_slots-fits.ensures in
    rw (p.1, p.2)
    (grow_full a.sheet.bytes.now a.k a.out.now _ _ c.count_tree-n.ensures.value c.line_count.ensures _ (sym f ∙ unless_passed _ 15 0 (sym c.in_ok-require.ensures)) _
    c.in_err-require-2.ensures)

pub write_tree-requires : goal.write_tree-requires
unfolding tree_of
write_tree-requires c =
    let a = c.args in
    let t = c.count_tree-n in
    let f = told_slots a.sheet.bytes.now a.k _ _ (c.view-view.ensures 0) _ c.args.sheet.counted.1 _ c.has_slots-fits.ensures in
    let r = room_enough a.tables.now.entries.now (slots_of a.sheet.bytes.now a.k) (sym f ∙ unless_passed _ 15 0 (sym c.in_ok-require.ensures)) in (
      grow_again _ _ _ _ t.ensures.lent c.requires,
      omega (arith, r, same_room a.tables.now.entries.now t.new.tables.entries.now t.ensures.lent.entries_length),
      grow_room a.sheet.bytes.now a.k a.out.now _ _ t.ensures.value c.line_count.ensures c.in_ok-require-2.ensures,
    )

pub returns-clause-run : goal.returns-clause-run
unfolding tree_of
returns-clause-run c =
    let a = c.args in
    let f = told_slots a.sheet.bytes.now a.k _ _ (c.view-view.ensures 0) _ c.args.sheet.counted.1 _ c.has_slots-fits.ensures in
    grow_whole a.sheet.bytes.now a.k a.out.now _ _ c.count_tree-n.ensures.value c.line_count.ensures _ (sym f ∙ unless_passed _ 15 0 (sym c.in_ok-require.ensures))
    c.in_ok-require-2.ensures _ c.write_tree.ensures.output
