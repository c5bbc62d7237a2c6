use mathlib.Core.Path.{◌≡◌, ap, subst}
use Prim.Native.Nat.{ℕ}
use native.Mathlib.Omega.{arith}
use lib.ListN.{take}
use Rattle.percolation.specs.Links.{Link}
use Rattle.sheet.specs.Sheet.{links_of}
use Rattle.sheet.proofs.Sound.{sheet_legal}
use Rattle.runs.proofs.Falling.{AllHeavy, none_heavy}
use Rattle.runs.proofs.InSheet.{sheet_given}
use Rattle.runs.proofs.LinkList.{weighs_more, weighs_less, weighs_all}
use Rattle.runs.proofs.heavy.Goals as goal

pub loop-j-init : goal.loop-j-init
loop-j-init c = none_heavy _

pub returns-then-link-t : goal.returns-then-link-t
returns-then-link-t c =
    let s = c.args.sheet.bytes.now in
    let l = c.loop-j in
    let w = ap (λ (x : Link). x.weight) c.link.ensures.0 in (
      weighs_less _ _ _ (sheet_given s) _ (sheet_legal s c.args.sheet.passed) _ l.j (omega (arith, c.args.sheet.counted.1)) l.invariant (omega (arith, w, c.if-link-t.true)),
      omega (arith, c.args.sheet.counted.1),
    )

pub loop-j-preserved : goal.loop-j-preserved
loop-j-preserved c =
    let l = c.loop-j in
    let w = ap (λ (x : Link). x.weight) c.link.ensures.0 in
    weighs_more _ _ _ (sheet_given c.args.sheet.bytes.now) _ l.j (omega (arith, c.args.sheet.counted.1)) l.invariant (omega (arith, w, c.if-link-t.false))

pub returns : goal.returns
returns c =
    let s = c.args.sheet.bytes.now in
    let e : c.loop-j.j ≡ c.args.sheet.counts.links = omega arith in
    let a = subst (λ (n : ℕ). AllHeavy c.args.t (take n (links_of s))) e c.loop-j.invariant in
    (weighs_all _ _ _ (sheet_given s) _ (sheet_legal s c.args.sheet.passed) _ _ c.args.sheet.counted.1 a, omega (arith, c.args.sheet.counted.1))
