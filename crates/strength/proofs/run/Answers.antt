use mathlib.Core.Path.{◌≡◌, ap, ◌∙◌}
use native.Mathlib.Omega.{arith}
use lib.ListN.{length}
use Rattle.std.specs.Prelude.{Some, None, Err}
use Rattle.answers.specs.declared.fault.Fault.TheVariants.{Slots}
use Rattle.answers.specs.declared.Refusal.{Refusal}
use Rattle.percolation.specs.Links.{cliques, slots}
use Rattle.percolation.specs.Steps.{enough}
use Rattle.percolation.proofs.Ranges.{good_k_lem}
use Rattle.sheet.specs.Sheet.{parts, links_of}
use Rattle.slots.specs.Tables.{Tables}
use Rattle.weights.proofs.Filling.{blank_new}
use Rattle.runs.proofs.Calls.{run_refused}
use Rattle.runs.proofs.InSheet.{parts_width}
use Rattle.strong_checks.specs.Model.{bearing}
use Rattle.strong_checks.proofs.Calls.{strength_k, strength_level, level_tables, level_rows}
use Rattle.strength.proofs.Strong.{list_refused, list_strong, scores_seen, family_seen}
use Rattle.strength.proofs.run.Goals as goal

pub rows_of-rows-requires : goal.rows_of-rows-requires
rows_of-rows-requires c = omega (arith, c.args.sheet.counted.1)

pub store_cliques-requires : goal.store_cliques-requires
store_cliques-requires c = omega (arith, c.args.sheet.counted.0, parts_width _ c.args.sheet.passed)

pub returns-in_err-n-clause-runs : goal.returns-in_err-n-clause-runs
returns-in_err-n-clause-runs c =
    let refusal : Refusal = record { fault = Slots; place = 0 } in
    let none : c.store_cliques.result ≡ None = grind arith in
    let err : c.from_residual.result ≡ Err refusal = grind arith in
    let stored = rw none at c.store_cliques.ensures.found_after in
    rw err (run_refused _ _ _ c.args.out.now _
    (list_refused _ _ _ _ c.requires _ _ c.args.sheet.counted.0 c.args.sheet.counted.1 _ c.rows_of-rows.ensures _ _ _ _ stored _ (omega arith)))

pub fill-requires : goal.fill-requires
fill-requires c = blank_new

pub score_cliques-requires : goal.score_cliques-requires
score_cliques-requires c =
    let some : c.store_cliques.result ≡ Some c.in_ok-n.n = grind arith in
    rw some at c.store_cliques.ensures.fits

pub is_sure-sure-requires : goal.is_sure-sure-requires
is_sure-sure-requires c = (good_k_lem _ (strength_k _ _ _ _ c.requires)).0

pub list-requires : goal.list-requires
list-requires c =
    let v = c.view-2.ensures in
    let x = c.score_cliques.ensures in
    let some : c.store_cliques.result ≡ Some c.in_ok-n.n = grind arith in
    let fit = rw some at c.store_cliques.ensures.fits in (
      level_tables _ _ (strength_level _ _ _ _ c.requires),
      omega (arith, fit, ap length v.1, x.length_kept),
      scores_seen _ _ _ _ _ _ v.0 v.1 x.scores,
    )

pub returns-clause-runs : goal.returns-clause-runs
returns-clause-runs c =
    let q = c.requires in
    let a = c.args in
    let some : c.store_cliques.result ≡ Some c.in_ok-n.n = grind arith in
    let fit = rw some at c.store_cliques.ensures.fits in
    let stored = rw some at c.store_cliques.ensures.found_after in
    list_strong _ _ _ _ q _ _ a.sheet.counted.0 a.sheet.counted.1 _ c.rows_of-rows.ensures _ _ _ _ stored fit
    (omega (arith, level_rows _ _ (strength_level _ _ _ _ q))) _ c.fill.ensures a.tables.now.entries.now a.out.now _ _ _
    (c.is_sure-sure.ensures
    ∙ ap (λ (T : Tables). enough (length T.entries) (slots (parts a.sheet.bytes.now) a.k (cliques (bearing a.measure (links_of a.sheet.bytes.now)) (parts a.sheet.bytes.now) a.k)))
    (c.view.ensures 0))
    (family_seen _ _ _ _ _ _ _ _ _ _ c.view-2.ensures.0 c.list.ensures.lists)
