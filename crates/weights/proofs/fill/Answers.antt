use mathlib.Core.Path.{ap}
use Prim.Native.Nat.{ℕ}
use lib.ListN.{set}
use native.Mathlib.Omega.{arith}
use Rattle.weights.proofs.Filling.{from_last, from_next, all_weighs, ends_narrow}
use Rattle.weights.proofs.fill.Goals as goal

pub loop-j-init : goal.loop-j-init
loop-j-init c = from_last _ _ _ c.args.sheet.counted.1 c.requires

pub number-requires : goal.number-requires
number-requires c =
    let a = c.args.sheet in
    let e = ends_narrow a.bytes.now a.passed _ _ (omega arith) c.link-l.ensures.0 in (omega (arith, e), omega (arith, e))

pub bounds-weights-number : goal.bounds-weights-number
bounds-weights-number c = omega (arith, c.number.ensures.1, c.loop-j.invariant.places)

pub loop-j-preserved : goal.loop-j-preserved
loop-j-preserved c =
    let l = c.loop-j in
    let a = c.args.sheet in
    from_next a.bytes.now a.passed _ l.j l.weights _ _ (omega arith) (omega arith) c.link-l.ensures.0 l.invariant
    (ap (λ (n : ℕ). set l.weights n c.link-l.result.weight) c.number.ensures.0)

pub returns : goal.returns
returns c = all_weighs c.args.sheet.bytes.now c.loop-j.j _ (omega arith) c.loop-j.invariant
