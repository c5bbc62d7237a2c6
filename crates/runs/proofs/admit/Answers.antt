use mathlib.Core.Bool.{Bool}
use mathlib.Core.Path.{sym, ap, ◌∙◌}
use Rattle.std.proofs.lemmas.Result.{err_from_is_err_and}
use Rattle.answers.specs.Verdict.{unless}
use Rattle.sheet.proofs.Said.{say_faulty, say_holds, said_faulty, said_holds}
use Rattle.runs.proofs.Admitted.{call_faulty, call_ten, call_past}
use Rattle.runs.proofs.admit.Goals as goal

pub returns-in_err-checked-clause-answer : goal.returns-in_err-checked-clause-answer
returns-in_err-checked-clause-answer c =
    let p = err_from_is_err_and c.from_residual.result c.from_residual.ensures.1 in
    rw (p.1, p.2) (say_faulty _ _ _ _ (call_faulty _ _ _ _ _ (said_faulty _ _ _ _ c.in_err-checked.ensures.answer)))

pub returns-in_err-require-clause-answer : goal.returns-in_err-require-clause-answer
returns-in_err-require-clause-answer c =
    let f = said_holds _ _ _ _ c.in_ok-checked.ensures.answer in
    let p = err_from_is_err_and c.from_residual-in_err-require.result c.from_residual-in_err-require.ensures.1 in
    rw (p.1, p.2) (say_faulty _ _ _ _ (call_ten _ _ _ f.0 _ _ (sym (c.in_err-require.ensures ∙ ap (λ (b : Bool). unless b 10 0) c.good_k.ensures))))

pub returns-in_err-require-2-clause-answer : goal.returns-in_err-require-2-clause-answer
returns-in_err-require-2-clause-answer c =
    let f = said_holds _ _ _ _ c.in_ok-checked.ensures.answer in
    let p = err_from_is_err_and c.from_residual-in_err-require-2.result c.from_residual-in_err-require-2.ensures.1 in
    let ten = sym (c.in_ok-require.ensures ∙ ap (λ (b : Bool). unless b 10 0) c.good_k.ensures) in
    rw (p.1, p.2) (say_faulty _ _ _ _ (call_past _ _ _ f.0 ten _ (sym (c.in_err-require-2.ensures ∙ ap (λ (b : Bool). unless b 11 0) c.level.ensures))))

pub returns-clause-answer : goal.returns-clause-answer
returns-clause-answer c =
    let f = said_holds _ _ _ _ c.in_ok-checked.ensures.answer in
    let ten = sym (c.in_ok-require.ensures ∙ ap (λ (b : Bool). unless b 10 0) c.good_k.ensures) in
    say_holds _ _ _ _ (call_past _ _ _ f.0 ten _ (sym (c.in_ok-require-2.ensures ∙ ap (λ (b : Bool). unless b 11 0) c.level.ensures))) f.1 f.2
