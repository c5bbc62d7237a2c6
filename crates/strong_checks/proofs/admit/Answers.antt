use mathlib.Core.Bool.{Bool}
use Rattle.std.proofs.Common.{rules}
use mathlib.Core.Path.{◌≡◌, sym, ap, ◌∙◌}
use Rattle.std.proofs.lemmas.Result.{err_from_is_err_and}
use Rattle.answers.specs.Verdict.{accepted, unless}
use Rattle.sheet.proofs.Said.{say_faulty, say_holds, said_faulty, said_holds}
use Rattle.strong_checks.specs.OnSheet.{check_measure}
use Rattle.strong_checks.proofs.Calls.{strength_faulty, strength_ten, strength_measure, strength_past}
use Rattle.strong_checks.proofs.admit.Goals as goal

pub returns-in_err-checked-clause-answer : goal.returns-in_err-checked-clause-answer
returns-in_err-checked-clause-answer c =
    let p = err_from_is_err_and c.from_residual.result c.from_residual.ensures.1 in
    rw (p.1, p.2) (say_faulty _ _ _ _ (strength_faulty _ _ _ _ _ _ (said_faulty _ _ _ _ c.in_err-checked.ensures.answer)))

pub returns-in_err-require-clause-answer : goal.returns-in_err-require-clause-answer
returns-in_err-require-clause-answer c =
    let f = said_holds _ _ _ _ c.in_ok-checked.ensures.answer in
    let p = err_from_is_err_and c.from_residual-in_err-require.result c.from_residual-in_err-require.ensures.1 in
    rw (p.1, p.2) (say_faulty _ _ _ _ (strength_ten _ _ _ _ f.0 _ _ (sym (c.in_err-require.ensures ∙ ap (λ (b : Bool). unless b 10 0) c.good_k.ensures))))

pub returns-in_err-check_measure-clause-answer : goal.returns-in_err-check_measure-clause-answer
returns-in_err-check_measure-clause-answer c =
    let f = said_holds _ _ _ _ c.in_ok-checked.ensures.answer in
    let p = err_from_is_err_and c.from_residual-in_err-check_measure.result c.from_residual-in_err-check_measure.ensures.1 in
    let ten = sym (c.in_ok-require.ensures ∙ ap (λ (b : Bool). unless b 10 0) c.good_k.ensures) in
    rw (p.1, p.2) (say_faulty _ _ _ _ (strength_measure _ _ _ _ f.0 ten _ _ (sym c.in_err-check_measure.ensures)))

pub returns-in_err-require-2-clause-answer : goal.returns-in_err-require-2-clause-answer
returns-in_err-require-2-clause-answer c =
    let f = said_holds _ _ _ _ c.in_ok-checked.ensures.answer in
    let p = err_from_is_err_and c.from_residual-in_err-require-2.result c.from_residual-in_err-require-2.ensures.1 in
    let ten = sym (c.in_ok-require.ensures ∙ ap (λ (b : Bool). unless b 10 0) c.good_k.ensures) in
    let passed : check_measure c.args.k c.args.measure ≡ accepted = search rules in
    rw (p.1, p.2) (say_faulty _ _ _ _ (strength_past _ _ _ _ f.0 ten passed _ (sym c.in_err-require-2.ensures)))

pub returns-clause-answer : goal.returns-clause-answer
returns-clause-answer c =
    let f = said_holds _ _ _ _ c.in_ok-checked.ensures.answer in
    let ten = sym (c.in_ok-require.ensures ∙ ap (λ (b : Bool). unless b 10 0) c.good_k.ensures) in
    say_holds _ _ _ _ (strength_past _ _ _ _ f.0 ten (sym c.in_ok-check_measure.ensures) _ (sym c.in_ok-require-2.ensures)) f.1 f.2
