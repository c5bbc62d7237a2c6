use mathlib.Core.Path.{sym, ap, ◌∙◌}
use native.Mathlib.Omega.{arith}
use Rattle.std.proofs.lemmas.Result.{err_from_is_err_and}
use Rattle.answers.proofs.Laws.{unless_passed}
use Rattle.slots.specs.Tables.{Tables}
use Rattle.mean.proofs.Calls.{clique_call, clique_two, first_member, some_links, run_stopped, run_ran}
use Rattle.mean.proofs.run.Goals as goal

pub has_slots-fits-requires : goal.has_slots-fits-requires
has_slots-fits-requires c = (c.heavy-n.ensures.1, clique_two _ _ _ _ _ c.requires)

pub returns-in_err-require-clause-run : goal.returns-in_err-require-clause-run
returns-in_err-require-clause-run c =
    let p = err_from_is_err_and c.from_residual.result c.from_residual.ensures.1 in
    let e = rw (ap (λ (T : Tables). T.entries) (c.view-view.ensures 0)) at c.has_slots-fits.ensures in
    rw (p.1, p.2) (run_stopped _ _ _ _ _ c.requires c.heavy-n.result c.heavy-n.ensures.0 _ (rw e at c.in_err-require.ensures))

pub family_links-all-requires : goal.family_links-all-requires
family_links-all-requires c =
    let h = c.heavy-n in
    let e = rw (ap (λ (T : Tables). T.entries) (c.view-view.ensures 0)) at c.has_slots-fits.ensures in (
      clique_call _ _ _ _ _ c.requires,
      h.ensures.1,
      sym e ∙ unless_passed _ 15 0 (sym c.in_ok-require.ensures),
      first_member _ _ _ _ _ c.requires h.result h.ensures.0,
    )

pub nonzero_div-result : goal.nonzero_div-result
nonzero_div-result c =
    omega (arith, some_links _ _ _ _ _ c.requires c.heavy-n.result c.heavy-n.ensures.0 c.family_links-all.result c.family_links-all.ensures.tally)

pub nonzero_rem-result : goal.nonzero_rem-result
nonzero_rem-result c =
    omega (arith, some_links _ _ _ _ _ c.requires c.heavy-n.result c.heavy-n.ensures.0 c.family_links-all.result c.family_links-all.ensures.tally)

pub returns-clause-run : goal.returns-clause-run
returns-clause-run c =
    let e = rw (ap (λ (T : Tables). T.entries) (c.view-view.ensures 0)) at c.has_slots-fits.ensures in
    run_ran _ _ _ _ _ c.requires c.heavy-n.result c.heavy-n.ensures.0 (sym e ∙ unless_passed _ 15 0 (sym c.in_ok-require.ensures))
    c.family_links-all.result c.family_links-all.ensures.tally
