use native.Mathlib.Omega.{arith}
use lib.ListN.{length-set}
use Rattle.page.proofs.Columns.{six_put}
use Rattle.page.proofs.put_number.Goals as goal

pub bounds-out-1 : goal.bounds-out-1
bounds-out-1 c = simp length-set (omega arith)

pub bounds-out-2 : goal.bounds-out-2
bounds-out-2 c = simp length-set (omega arith)

pub bounds-out-3 : goal.bounds-out-3
bounds-out-3 c = simp length-set (omega arith)

pub bounds-out-4 : goal.bounds-out-4
bounds-out-4 c = simp length-set (omega arith)

pub returns : goal.returns
returns c =
    six_put c.args.out.now c.args.n _ _ _ _ _ _ c.column.ensures c.column-2.ensures
    c.column-3.ensures c.column-4.ensures c.column-5.ensures c.column-6.ensures
