use mathlib.Core.Path.{◌≡◌, sym, ap, ◌∙◌}
use Prim.Native.Nat.{◌<◌}
use native.Mathlib.Omega.{arith}
use lib.ListN.{length}
use Rattle.std.specs.Prelude.{Ok, Err}
use Rattle.answers.specs.declared.fault.Fault.{Fault}
use Rattle.answers.specs.Verdict.{refused, in_order}
use Rattle.answers.specs.Model.{verdict, fault_number}
use Rattle.answers.specs.Faults.{number_of}
use Rattle.checks.specs.Model.{as_link, link_number}
use Rattle.sheet.specs.Sheet.{parts, link_at, link_of, check_link_at}
use Rattle.sheet.proofs.InTurn.{passed_none, passed_stop, passed_more}
use Rattle.sheet.proofs.sheet_links.Goals as goal

pub loop-j-init : goal.loop-j-init
loop-j-init c = (rw c.no_rows-seen.ensures (passed_none _ _ _), ap length c.no_rows-seen.ensures)

pub loop-j-preserved : goal.loop-j-preserved
loop-j-preserved c =
    let l = c.loop-j in
    let s = c.args.s.now in
    let r = c.check_link in
    let small : c.link-l.result.weight < 65536 = omega (arith, c.link-l.type_inv) in
    let ok : r.result ≡ Ok tt = grind arith in
    let says : fault_number r.result ≡ link_number (parts s) l.seen l.before (as_link c.link-l.result) = cc in (
      rw (c.add_link.ensures, c.from-before.ensures)
          (passed_more (link_of s) (link_at s) (parts s) l.j l.seen l.before (omega arith) l.invariant.0 _ c.link-l.ensures.0 small r.result says ok),
      c.add_link.auto.rows ∙ l.invariant.1,
    )

pub returns-in_err-map_err : goal.returns-in_err-map_err
unfolding check_link_at
returns-in_err-map_err c =
    let l = c.loop-j in
    let s = c.args.s.now in
    let r = c.check_link in
    let small : c.link-l.result.weight < 65536 = omega (arith, c.link-l.type_inv) in
    let err : (x : Fault) × (r.result ≡ Err x) × (verdict c.from_residual.result ≡ refused (number_of x) (link_at s l.j)) = grind arith in
    let says : fault_number r.result ≡ link_number (parts s) l.seen l.before (as_link c.link-l.result) = cc in
    let stop : in_order (check_link_at s) c.args.m ≡ refused (number_of err.0) (link_at s l.j) =
    passed_stop (link_of s) (link_at s) (parts s) l.j l.seen l.before (omega arith) l.invariant.0 _ c.link-l.ensures.0 small r.result says err.0 err.1 c.args.m (omega arith) in
    cc

pub returns : goal.returns
unfolding check_link_at
returns c =
    let s = c.args.s.now in
    sym (ap (in_order (check_link_at s)) (let e : c.args.m ≡ c.loop-j.j = omega arith in e) ∙ c.loop-j.invariant.0.each)
