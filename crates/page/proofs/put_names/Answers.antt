use native.Mathlib.Omega.{arith}
use Rattle.page.proofs.Steps.{names_step, names_end}
use Rattle.page.proofs.put_names.Goals as goal

pub loop-i-preserved : goal.loop-i-preserved
loop-i-preserved c =
    let l = c.loop-i in
    let k = c.put_cell.ensures in
    names_step c.args.sheet.now _ l.out _ _ _ l.i l.invariant c.loop-i-test.true k.out_after k.leaves

pub returns : goal.returns
returns c =
    let l = c.loop-i in
    let e = names_end c.args.sheet.now l.out _ _ l.i l.invariant (omega arith) in
    record { out_after = e.0; leaves = e.1 }
