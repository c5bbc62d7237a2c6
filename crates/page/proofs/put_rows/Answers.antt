use mathlib.Core.Path.{ap, ◌∙◌}
use mathlib.Core.List.{flatten}
use Prim.Native.Nat.{ℕ}
use native.Mathlib.Omega.{arith}
use Rattle.page.specs.Page.{blank_rows}
use Rattle.page.specs.Model.{parts_in}
use Rattle.page.proofs.Steps.{rows_step, rows_end}
use Rattle.page.proofs.put_rows.Goals as goal

pub loop-i-preserved : goal.loop-i-preserved
loop-i-preserved c =
    let l = c.loop-i in
    let k = c.put_row.ensures in
    rows_step c.args.sheet.now _ l.out _ c.args.n _ _ l.i l.invariant c.loop-i-test.true k.out_after k.leaves

pub returns : goal.returns
returns c =
    let s = c.args.sheet.now in
    let l = c.loop-i in
    rows_end s _ l.out c.args.n _ l.i l.invariant (omega arith)
    ∙ ap (λ (u : ℕ). flatten (blank_rows s c.args.n (parts_in s u))) c.parts-parts.ensures.left
