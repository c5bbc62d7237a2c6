use mathlib.Core.Path.{◌≡◌, sym, ap, ◌∙◌}
use Prim.Native.Nat.{ℕ}
use native.Mathlib.Omega.{arith}
use Rattle.slots.specs.List.{slots_of}
use Rattle.slots.proofs.Places.{same_slots, slots_both}
use Rattle.percolating.specs.Model.{took_each}
use Rattle.percolating.proofs.Loops.{strong_first, told_strong, strong_none, strong_yes, strong_no, strong_full, have_same}
use Rattle.percolating.proofs.percolate.Goals.{then-is_strong+in_ok-take_fitting, else-is_strong}
use Rattle.percolating.proofs.percolate.Goals as goal

pub loop-i-init : goal.loop-i-init
loop-i-init c = (same_slots _, strong_none _ _ _ _ _ 0)

pub returns-in_err-take_fitting-clause-same : goal.returns-in_err-take_fitting-clause-same
returns-in_err-take_fitting-clause-same c = slots_both c.loop-i.invariant.0 c.take_fitting.ensures.same

pub returns-in_err-take_fitting-clause-fits : goal.returns-in_err-take_fitting-clause-fits
returns-in_err-take_fitting-clause-fits c =
    let l = c.loop-i in
    let told = told_strong _ _ _ _ _ c.requires.1 l.i c.loop-i-test.true _ c.is_strong.ensures in
    rw c.from_residual.ensures
    (strong_full _ _ _ _ _ _ l.i _ c.loop-i-test.true (omega arith)
    (strong_yes _ _ _ _ _ l.i _ l.invariant.1 (sym told ∙ c.if-is_strong.true) _ c.at.ensures _ c.in_err-take_fitting.ensures.fits))

pub loop-i-preserved : goal.loop-i-preserved
loop-i-preserved c =
    let l = c.loop-i in
    let told = told_strong _ _ _ _ _ c.requires.1 l.i c.loop-i-test.true _ c.is_strong.ensures in
    elim c.if-is_strong.branch [
      | then-is_strong+in_ok-take_fitting w ↦
          have_same _ _ _ _ _ _ _ _ w.slots-is (
            slots_both l.invariant.0 w.take_fitting.ensures.same,
            strong_yes _ _ _ _ _ l.i _ l.invariant.1 (sym told ∙ w.if-is_strong.true) _ w.at.ensures _ w.in_ok-take_fitting.ensures.fits,
          )
      | else-is_strong w ↦
          have_same _ _ _ _ _ _ _ _ w.slots-is
          (l.invariant.0, strong_no _ _ _ _ _ l.i _ l.invariant.1 (sym told ∙ w.if-is_strong.false))
    ]

pub returns-clause-fits : goal.returns-clause-fits
returns-clause-fits c =
    let a = c.args in
    c.loop-i.invariant.1
    ∙ ap (λ (i : ℕ). took_each a.sure (slots_of a.slots.now) (strong_first a.measure a.weights.now a.list.cliques.now i))
    (let e : c.loop-i.i ≡ a.n = omega arith in e)
