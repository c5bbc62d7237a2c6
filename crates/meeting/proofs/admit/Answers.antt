use mathlib.Core.Bool.{Bool}
use mathlib.Core.Path.{ap, ◌∙◌}
use Rattle.std.proofs.lemmas.Result.{err_from_is_err_and}
use Rattle.answers.specs.Verdict.{unless}
use Rattle.sheet.proofs.Said.{say_faulty, say_holds, said_faulty, said_holds}
use Rattle.meeting.proofs.Pairs.{pair_early, pair_13}
use Rattle.meeting.proofs.admit.Goals as goal

pub returns-in_err-checked-clause-answer : goal.returns-in_err-checked-clause-answer
returns-in_err-checked-clause-answer c =
    let p = err_from_is_err_and c.from_residual.result c.from_residual.ensures.1 in
    rw (p.1, p.2) (say_faulty _ _ _ _ (pair_early _ _ _ _ _ _ _ (said_faulty _ _ _ _ c.in_err-checked.ensures.answer)))

pub returns-in_err-require-clause-answer : goal.returns-in_err-require-clause-answer
returns-in_err-require-clause-answer c =
    let f = said_holds _ _ _ _ c.in_ok-checked.ensures.answer in
    let p = err_from_is_err_and c.from_residual-in_err-require.result c.from_residual-in_err-require.ensures.1 in
    rw (p.1, p.2) (say_faulty _ _ _ _ (pair_13 _ _ _ _ _ f.0 _ (c.in_err-require.ensures ∙ ap (λ (b : Bool). unless b 13 0) (rw c.in_ok-checked.ensures.same at c.are_cliques.ensures))))

pub returns-clause-answer : goal.returns-clause-answer
returns-clause-answer c =
    let f = said_holds _ _ _ _ c.in_ok-checked.ensures.answer in
    say_holds _ _ _ _ (pair_13 _ _ _ _ _ f.0 _ (c.in_ok-require.ensures ∙ ap (λ (b : Bool). unless b 13 0) (rw c.in_ok-checked.ensures.same at c.are_cliques.ensures))) f.1 f.2
