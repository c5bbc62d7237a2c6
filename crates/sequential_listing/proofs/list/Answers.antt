use Rattle.std.proofs.Common.{rules}
use mathlib.Core.Path.{sym, ap, ◌∙◌}
use mathlib.Core.Bool.{Bool}
use native.Mathlib.Omega.{arith}
use Rattle.std.proofs.lemmas.Result.{err_from_is_err_and}
use Rattle.answers.specs.Verdict.{unless}
use Rattle.answers.proofs.Laws.{unless_passed}
use Rattle.percolation.proofs.Ranges.{good_k_lem}
use Rattle.slots.specs.Tables.{Tables}
use Rattle.runs.proofs.Admitted.{call_k}
use Rattle.runs.proofs.Calls.{run_refused, run_listing}
use Rattle.sequential_listing.proofs.Running.{run_lists}
use Rattle.sequential_listing.proofs.list.Goals as goal

pub has_slots-free-requires : goal.has_slots-free-requires
has_slots-free-requires c = (c.requires.1, (good_k_lem _ (call_k _ _ _ c.requires.0)).0)

pub take_links-requires : goal.take_links-requires
take_links-requires c = (omega arith, c.requires.1, (good_k_lem _ (call_k _ _ _ c.requires.0)).0)

pub returns-in_err-require-clause-lists : goal.returns-in_err-require-clause-lists
returns-in_err-require-clause-lists c =
    let p = err_from_is_err_and c.from_residual.result c.from_residual.ensures.1 in
    let free = rw (ap (λ (T : Tables). T.entries) (c.view.ensures 0)) at c.has_slots-free.ensures in
    rw (p.1, p.2) (run_refused _ _ _ c.args.out.now _ (c.in_err-require.ensures ∙ ap (λ (b : Bool). unless b 15 0) free))

pub returns-clause-lists : goal.returns-clause-lists
returns-clause-lists c =
    let a = c.args in
    let free = rw (ap (λ (T : Tables). T.entries) (c.view.ensures 0)) at c.has_slots-free.ensures in
    let f = sym free ∙ unless_passed _ 15 0 (sym c.in_ok-require.ensures) in
    run_listing _ _ _ a.out.now _ _ f
    (run_lists _ _ _ c.requires.0 a.n f _ _ _ c.no_rows-rows.ensures c.clear.ensures.tables_after
    (c.view-2.ensures c.take_links.new.slots.used ∙ (search rules) ∙ c.take_links.ensures.slots_after)) c.list_roots.ensures
