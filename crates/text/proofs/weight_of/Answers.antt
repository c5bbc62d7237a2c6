use lib.ListN.{get_or, drop}
use Prim.Native.Nat.{◌+◌}
use Rattle.text.proofs.Weights.{weight_from, digit_none, digit_some, weight_none, weight_bad, weight_over, weight_more, weight_end}
use native.Mathlib.Omega.{arith}
use mathlib.Core.Path.{sym, ap, ◌∙◌}
use Rattle.text.proofs.weight_of.Goals as goal

pub loop-b-init : goal.loop-b-init
loop-b-init c = (omega arith, weight_none c.args.word.now)

pub returns-in_err-checked_mul : goal.returns-in_err-checked_mul
returns-in_err-checked_mul c = let l = c.loop-b in
    c.from_residual.ensures
    ∙ sym (l.invariant.1 ∙ weight_over l.value c.args.word.now l.b-index c.loop-b-test.true (omega (arith, c.in_err-checked_mul.ensures)))

pub returns-in_err-digit : goal.returns-in_err-digit
returns-in_err-digit c = let l = c.loop-b in
    c.from_residual-in_err-digit.ensures
    ∙ sym (l.invariant.1 ∙ weight_bad l.value c.args.word.now l.b-index c.loop-b-test.true (digit_none (get_or c.args.word.now l.b-index 0) c.in_err-digit.ensures))

pub returns-in_err-value : goal.returns-in_err-value
returns-in_err-value c = let l = c.loop-b in
    let d = digit_some (get_or c.args.word.now l.b-index 0) _ c.in_ok-digit.ensures in
    c.from_residual-in_err-value.ensures
    ∙ sym (l.invariant.1 ∙ weight_over l.value c.args.word.now l.b-index c.loop-b-test.true (omega (arith, d.1, c.in_ok-checked_mul.ensures, c.in_err-value.ensures)))

pub loop-b-preserved : goal.loop-b-preserved
loop-b-preserved c = let l = c.loop-b in
    let d = digit_some (get_or c.args.word.now l.b-index 0) _ c.in_ok-digit.ensures in (
      omega (arith, c.in_ok-value.ensures),
      l.invariant.1 ∙ weight_more l.value c.args.word.now l.b-index c.loop-b-test.true d.0
          ∙ ap (λ x. weight_from x (drop (l.b-index + 1) c.args.word.now)) (omega (arith, d.1, c.in_ok-checked_mul.ensures, c.in_ok-value.ensures)),
    )

pub returns : goal.returns
returns c = sym (c.loop-b.invariant.1 ∙ weight_end c.loop-b.value c.args.word.now c.loop-b.b-index c.loop-b-test.false c.loop-b.invariant.0)
