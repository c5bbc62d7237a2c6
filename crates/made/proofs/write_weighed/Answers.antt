use native.Mathlib.Omega.{arith}
use Rattle.std.proofs.lemmas.Grind.{common_steps}
use Rattle.link_order.specs.Lent.{link_lists_of}
use Rattle.made.specs.Made.{weighed, weight_at}
use Rattle.made.proofs.Standing.{stand_written}
use Rattle.made.proofs.write_weighed.Goals as goal

pub returns : goal.returns
returns c =
    let m = c.put_pairs-m in
    stand_written c.args.names.now c.args.out.now c.write.new.out (weighed (weight_at c.args.table.now) c.args.p) _ (link_lists_of m.new.links) m.result c.write.result
    _ _ _ c.write.ensures m.ensures.stand (grind (arith, common_steps)) (grind (arith, common_steps)) (grind (arith, common_steps))
