use mathlib.Core.Path.{ap}
use Prim.Native.Nat.{◌<◌}
use native.Mathlib.Omega.{arith}
use Rattle.percolation.specs.Links.{Link}
use Rattle.runs.proofs.InSheet.{links_few}
use Rattle.mean.proofs.Adding.{adding_none, adding_yes, adding_no, counts_ends}
use Rattle.mean.proofs.count_links.Goals as goal
use Rattle.mean.proofs.count_links.Goals.{then-is_counted, else-is_counted}

pub loop-j-init : goal.loop-j-init
loop-j-init c = adding_none _ _

pub overflow_add-all : goal.overflow_add-all
overflow_add-all c =
    let few = links_few _ c.args.sheet.passed in
    record { fits = omega (arith, few, c.loop-j.invariant.small, c.loop-j-test.true, c.requires, c.link-l.type_inv) }

pub loop-j-preserved : goal.loop-j-preserved
loop-j-preserved c =
    let l = c.loop-j in
    let r = c.link-l in
    let small : r.result.weight < 65536 = omega (arith, r.type_inv) in
    elim c.if-is_counted.branch [
      | then-is_counted w ↦
          rw (w.all-is, w.from.ensures) (adding_yes _ c.args.sheet.bytes.now l.j _ _ (omega (arith, c.loop-j-test.true, c.requires)) l.invariant
          (counts_ends _ _ _ _ _ _ _ r.ensures.0 c.is_counted.ensures w.if-is_counted.true) _ (ap (λ (x : Link). x.weight) r.ensures.0) small)
      | else-is_counted w ↦
          rw w.all-is (adding_no _ c.args.sheet.bytes.now l.j _ _ (omega (arith, c.loop-j-test.true, c.requires)) l.invariant
          (counts_ends _ _ _ _ _ _ _ r.ensures.0 c.is_counted.ensures w.if-is_counted.false))
    ]
