use mathlib.Core.Path.{ap, ◌∙◌}
use native.Mathlib.Omega.{arith}
use mathlib.Core.Bool.{Bool}
use Prim.Native.Nat.{ℕ}
use Rattle.std.proofs.lemmas.Result.{err_from_is_err_and}
use Rattle.answers.specs.Verdict.{unless}
use Rattle.percolation.proofs.Ranges.{narrow_count_lem}
use Rattle.sheet.specs.Sheet.{check_sheet}
use Rattle.sheet.proofs.Said.{said_faulty, said_holds}
use Rattle.sheet.proofs.Sound.{sheet_count}
use Rattle.page.specs.Page.{good_lines}
use Rattle.page.proofs.Answered.{admit_stop, admit_go}
use Rattle.page.proofs.admit.Goals as goal

pub good_lines-requires : goal.good_lines-requires
good_lines-requires c =
    let s = c.args.sheet.now in
    let f = said_holds (check_sheet s) s _ _ c.in_ok-counts.ensures in
    omega (arith, f.1, (narrow_count_lem _ (sheet_count s f.0)).1)

pub returns-in_err-counts : goal.returns-in_err-counts
returns-in_err-counts c =
    let s = c.args.sheet.now in
    let p = err_from_is_err_and c.from_residual.result c.from_residual.ensures.1 in
    rw (p.1, p.2) (admit_stop s c.args.lines.now _ _ (said_faulty (check_sheet s) s _ _ c.in_err-counts.ensures))

pub returns : goal.returns
returns c =
    let s = c.args.sheet.now in
    let b = c.args.lines.now in
    let f = said_holds (check_sheet s) s _ _ c.in_ok-counts.ensures in
    admit_go s b _ f.0 (c.require.ensures ∙ ap (λ (t : Bool). unless t 24 0) (c.good_lines.ensures ∙ ap (λ (n : ℕ). good_lines n b) f.1))
