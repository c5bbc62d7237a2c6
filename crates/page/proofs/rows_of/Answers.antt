use Rattle.std.proofs.Common.{arith}
use Rattle.sets.specs.Value.{width, num}
use Rattle.sets.proofs.Laws.{size_le}
use Rattle.sets.proofs.Held.{held}
use Rattle.page.proofs.rows_of.Goals as goal

pub returns : goal.returns
returns c =
    let e = c.count-n.ensures in
    let l = size_le width (num c.args.whole) (held c.args.whole c.well_formed.0) in
    omega (arith, e, l, c.div_ceil.ensures, c.max.ensures)
