use mathlib.Core.Path.{◌≡◌}
use native.Mathlib.Omega.{arith}
use Rattle.dump.specs.Dump.{rows_in}
use Rattle.dump.proofs.Rows.{counted_start, counted_room, counted_more, counted_last}
use Rattle.dump.proofs.count_rows.Goals as goal

pub loop-i-init : goal.loop-i-init
loop-i-init c = counted_start c.args.d.now _ c.requires

pub count_row-requires : goal.count_row-requires
count_row-requires c =
    let l = c.loop-i in
    (l.invariant.places, counted_room c.args.d.now l.i _ l.counts (omega arith) c.row.ensures.1 l.invariant)

pub loop-i-preserved : goal.loop-i-preserved
loop-i-preserved c = counted_more c.args.d.now c.loop-i.i _ _ _ c.row.ensures.0 c.count_row.ensures c.loop-i.invariant

pub returns : goal.returns
returns c =
    let l = c.loop-i in
    counted_last c.args.d.now l.i _ (let e : l.i ≡ rows_in c.args.d.now = omega arith in e) l.invariant
