use mathlib.Core.Path.{sym, ◌∙◌}
use native.Mathlib.Omega.{arith}
use Rattle.subsets.proofs.Checks.{far_count, far_parts, few_parts, in_table}
use Rattle.subsets.proofs.subset_count.Goals as goal

-- `subsets::subset_count` meets its contract: outside its range 0, with more parts wanted than there are 0, else the product. Assumes nothing.
pub returns-then-n-gt64 : goal.returns-then-n-gt64
returns-then-n-gt64 c = far_count c.args.n c.args.r c.if-n-gt64.true

pub returns-then-r-gt6 : goal.returns-then-r-gt6
returns-then-r-gt6 c = far_parts c.args.n c.args.r c.if-r-gt6.true

pub returns-then-n-r : goal.returns-then-n-r
returns-then-n-r c = let a = c.args in few_parts a.n a.r (omega arith) (omega arith) c.if-n-r.true

pub returns : goal.returns
returns c =
    let a = c.args in
    c.product.ensures ∙ sym (in_table a.n a.r (omega arith) (omega arith))
