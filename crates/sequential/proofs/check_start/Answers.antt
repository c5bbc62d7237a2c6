use mathlib.Core.Path.{sym, ap, ◌∙◌}
use mathlib.Core.Bool.{Bool}
use Rattle.std.proofs.lemmas.Result.{err_from_is_err_and}
use Rattle.answers.specs.Verdict.{unless}
use Rattle.sequential.proofs.Starting.{start_first, start_second, start_third, start_last}
use Rattle.sequential.proofs.check_start.Goals as goal

pub returns-in_err-require : goal.returns-in_err-require
returns-in_err-require c =
    let p = err_from_is_err_and c.from_residual.result c.from_residual.ensures.1 in
    rw (p.1, p.2) (sym (start_first _ _ _ _ _ _ (sym (c.in_err-require.ensures ∙ ap (λ (b : Bool). unless b 4 0) c.good_count.ensures))))

pub returns-in_err-require-2 : goal.returns-in_err-require-2
returns-in_err-require-2 c =
    let p = err_from_is_err_and c.from_residual-in_err-require-2.result c.from_residual-in_err-require-2.ensures.1 in
    let one = sym (c.in_ok-require.ensures ∙ ap (λ (b : Bool). unless b 4 0) c.good_count.ensures) in
    rw (p.1, p.2) (sym (start_second _ _ _ _ one _ _ (sym (c.in_err-require-2.ensures ∙ ap (λ (b : Bool). unless b 10 0) c.good_k.ensures))))

pub returns-in_err-require-3 : goal.returns-in_err-require-3
returns-in_err-require-3 c =
    let p = err_from_is_err_and c.from_residual-in_err-require-3.result c.from_residual-in_err-require-3.ensures.1 in
    let one = sym (c.in_ok-require.ensures ∙ ap (λ (b : Bool). unless b 4 0) c.good_count.ensures) in
    let two = sym (c.in_ok-require-2.ensures ∙ ap (λ (b : Bool). unless b 10 0) c.good_k.ensures) in
    rw (p.1, p.2) (sym (start_third _ _ _ _ one two _ _ (sym (c.in_err-require-3.ensures ∙ ap (λ (b : Bool). unless b 11 0) c.level.ensures))))

pub returns : goal.returns
returns c =
    let one = sym (c.in_ok-require.ensures ∙ ap (λ (b : Bool). unless b 4 0) c.good_count.ensures) in
    let two = sym (c.in_ok-require-2.ensures ∙ ap (λ (b : Bool). unless b 10 0) c.good_k.ensures) in
    let three = sym (c.in_ok-require-3.ensures ∙ ap (λ (b : Bool). unless b 11 0) c.level.ensures) in
    sym (start_last _ _ _ _ one two three _ (sym (c.require-4.ensures ∙ ap (λ (b : Bool). unless b 20 0) c.whole.ensures)))
