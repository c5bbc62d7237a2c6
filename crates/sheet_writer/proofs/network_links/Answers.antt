use mathlib.Core.Path.{◌≡◌, sym, ap, ◌∙◌}
use Prim.Native.Nat.{◌<◌}
use native.Mathlib.Omega.{arith}
use lib.ListN.{length}
use Rattle.std.specs.Prelude.{Ok, Err}
use Rattle.answers.specs.declared.fault.Fault.{Fault}
use Rattle.answers.specs.Faults.{number_of}
use Rattle.answers.specs.Model.{verdict}
use Rattle.answers.specs.Verdict.{refused, in_order}
use Rattle.sheet.specs.Lent.{network_in}
use Rattle.sheet.proofs.InTurn.{passed_none, passed_stop, passed_more}
use Rattle.sheet_writer.specs.Writing.{parts_of, link_in, check_link_in}
use Rattle.sheet_writer.proofs.network_links.Goals as goal

pub loop-j-init : goal.loop-j-init
loop-j-init c = (rw c.no_rows-seen.ensures (passed_none _ _ _), ap length c.no_rows-seen.ensures)

pub loop-j-preserved : goal.loop-j-preserved
loop-j-preserved c =
    let l = c.loop-j in
    let n = network_in c.args.network in
    let r = c.check_link in
    let x = c.link-l.ensures in
    let small : c.link-l.result.weight < 65536 = omega (arith, c.link-l.type_inv) in
    let ok : r.result ≡ Ok tt = grind arith in (
      rw (c.add_link.ensures, c.from-before.ensures)
          (passed_more (link_in n) (λ i. 0) (parts_of n) l.j l.seen l.before (omega arith) l.invariant.0 _ x small r.result r.ensures ok),
      c.add_link.auto.rows ∙ l.invariant.1,
    )

pub returns-in_err-check_link : goal.returns-in_err-check_link
unfolding check_link_in
returns-in_err-check_link c =
    let l = c.loop-j in
    let n = network_in c.args.network in
    let r = c.check_link in
    let x = c.link-l.ensures in
    let small : c.link-l.result.weight < 65536 = omega (arith, c.link-l.type_inv) in
    let err : (f : Fault) × (r.result ≡ Err f) × (verdict c.from_residual.result ≡ refused (number_of f) 0) = grind arith in
    let stop : in_order (check_link_in n) (length n.lower) ≡ refused (number_of err.0) 0 =
    passed_stop (link_in n) (λ i. 0) (parts_of n) l.j l.seen l.before (omega arith) l.invariant.0 _ x small r.result r.ensures err.0 err.1 (length n.lower) (omega arith) in
    cc

pub returns : goal.returns
unfolding check_link_in
returns c =
    let n = network_in c.args.network in
    sym (ap (in_order (check_link_in n)) (let e : length n.lower ≡ c.loop-j.j = omega arith in e) ∙ c.loop-j.invariant.0.each)
