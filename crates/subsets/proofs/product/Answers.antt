use mathlib.Core.Path.{sym}
use native.Mathlib.Omega.{arith}
use Rattle.subsets.proofs.Pascal.{count_empty}
use Rattle.subsets.proofs.Formula.{product_fits, next_count}
use Rattle.subsets.proofs.product.Goals as goal

pub loop-i-init : goal.loop-i-init
loop-i-init c = (omega arith, sym (count_empty c.args.n))

pub overflow_mul-c : goal.overflow_mul-c
overflow_mul-c c =
    let l = c.loop-i in
    omega (arith, product_fits c.args.n l.i l.c l.invariant.1 (omega arith) (omega arith))

pub loop-i-preserved : goal.loop-i-preserved
loop-i-preserved c =
    let l = c.loop-i in
    (omega arith, next_count c.args.n l.i l.c l.invariant.1)
