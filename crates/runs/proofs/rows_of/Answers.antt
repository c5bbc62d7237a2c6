use mathlib.Core.Path.{ap, ◌∙◌}
use native.Mathlib.Omega.{arith}
use mathlib.Core.List.{List}
use Prim.Native.Nat.{ℕ}
use lib.ListN.{length, take}
use Rattle.sheet.specs.Sheet.{links_of}
use Rattle.runs.specs.Model.{rows_with}
use Rattle.runs.proofs.InSheet.{sheet_given}
use Rattle.runs.proofs.LinkList.{rows_next, rows_end}
use Rattle.runs.proofs.rows_of.Goals as goal

pub loop-j-init : goal.loop-j-init
loop-j-init c =
    let s = c.args.sheet.bytes.now in
    (ap (λ (R : List ℕ). rows_with R (take c.args.n (links_of s))) c.no_rows-rows.ensures, ap length c.no_rows-rows.ensures)

pub loop-j-preserved : goal.loop-j-preserved
loop-j-preserved c =
    let a = c.args in
    let l = c.loop-j in (
      rows_next _ _ _ (sheet_given a.sheet.bytes.now) a.n c.requires l.rows _ l.j _ c.loop-j-test.true c.link-l.ensures.0 c.add_link.ensures ∙ l.invariant.0,
      c.add_link.auto.rows ∙ l.invariant.1,
    )

pub returns : goal.returns
returns c = rows_end _ _ _ (sheet_given _) _ c.requires _ c.loop-j.j (omega arith) ∙ c.loop-j.invariant.0
