use mathlib.Core.Path.{sym, ap, ◌∙◌}
use mathlib.Core.Bool.{Bool}
use native.Mathlib.Omega.{arith}
use Rattle.std.proofs.lemmas.Result.{err_from_is_err_and}
use Rattle.answers.specs.Verdict.{unless}
use Rattle.answers.proofs.Laws.{unless_passed}
use Rattle.slots.specs.Tables.{Tables}
use Rattle.runs.proofs.Calls.{slots_all}
use Rattle.meeting.proofs.Calls.{meet_refused, meet_whole}
use Rattle.meeting_sequential.proofs.Taking.{meet_two, meet_within, meet_taken}
use Rattle.meeting_sequential.proofs.run.Goals as goal

pub has_slots-fits-requires : goal.has_slots-fits-requires
has_slots-fits-requires c = (omega (arith, c.args.sheet.counted.1), meet_two _ _ _ _ _ c.requires)

pub returns-in_err-require-clause-run : goal.returns-in_err-require-clause-run
returns-in_err-require-clause-run c =
    let a = c.args in
    let p = err_from_is_err_and c.from_residual.result c.from_residual.ensures.1 in
    let e = rw (ap (λ (T : Tables). T.entries) (c.view-view.ensures 0)) at c.has_slots-fits.ensures in
    let f = slots_all a.sheet.bytes.now a.k a.tables.now.entries.now _ c.args.sheet.counted.1 _ e in
    rw (p.1, p.2) (meet_refused _ _ _ (c.in_err-require.ensures ∙ ap (λ (b : Bool). unless b 15 0) f))

pub take_links-requires : goal.take_links-requires
take_links-requires c = (omega arith, meet_within _ _ _ _ _ _ c.complete.ensures c.complete-2.ensures c.max-n.ensures, meet_two _ _ _ _ _ c.requires)

pub meet_after-requires : goal.meet_after-requires
meet_after-requires c =
    let a = c.args in
    let q = c.requires in
    let t = c.take_links.ensures in
    let e = rw (ap (λ (T : Tables). T.entries) (c.view-view.ensures 0)) at c.has_slots-fits.ensures in
    let f = sym (slots_all a.sheet.bytes.now a.k a.tables.now.entries.now _ a.sheet.counted.1 _ e) ∙ unless_passed _ 15 0 (sym c.in_ok-require.ensures) in (
      meet_two _ _ _ _ _ q,
      meet_taken _ _ _ _ _ q f _ _ _ c.complete.ensures c.complete-2.ensures c.max-n.ensures _ _ _ _ c.no_rows-rows.ensures c.clear.ensures.tables_after
          t.rows_after t.slots_after,
    )

pub returns-clause-run : goal.returns-clause-run
returns-clause-run c =
    let a = c.args in
    let e = rw (ap (λ (T : Tables). T.entries) (c.view-view.ensures 0)) at c.has_slots-fits.ensures in
    let f = sym (slots_all a.sheet.bytes.now a.k a.tables.now.entries.now _ c.args.sheet.counted.1 _ e) ∙ unless_passed _ 15 0 (sym c.in_ok-require.ensures) in
    meet_whole _ _ f _ c.meet_after.ensures.value
