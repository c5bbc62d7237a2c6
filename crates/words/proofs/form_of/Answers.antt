use mathlib.Core.Path.{sym, ap, ◌∙◌}
use native.Mathlib.Omega.{arith}
use Rattle.words.specs.Lines.{comment}
use Rattle.words.proofs.Said.{comment_tested, word_same, word_other, says_nothing, says_comment, says_part, says_link, says_neither}
use Rattle.words.proofs.form_of.Goals as goal

pub returns-in-0 : goal.returns-in-0
returns-in-0 c = says_nothing _ (omega arith)

pub returns-in_default : goal.returns-in_default
returns-in_default c = says_comment _ (ap comment (sym c.word-first.ensures.result_value) ∙ sym (comment_tested _) ∙ sym c.if-starts_with.ensures.value)

pub returns-in-2 : goal.returns-in-2
returns-in-2 c = says_part _ (omega arith) (sym c.word-first.ensures.result_value ∙ word_same _ _ c.if-eq.ensures)

pub returns-in-4 : goal.returns-in-4
returns-in-4 c = says_link _ (omega arith) (sym c.word-first.ensures.result_value ∙ word_same _ _ c.if-eq-2.ensures)

pub returns-in_default-2 : goal.returns-in_default-2
returns-in_default-2 c =
    says_neither _ (λ n. omega (arith, n))
    (ap comment (sym c.word-first.ensures.result_value) ∙ sym (comment_tested _) ∙ sym c.if-starts_with.ensures.value)
    (λ n e. word_other _ _ c.if-eq.ensures (c.word-first.ensures.result_value ∙ e))
    (λ n e. omega (arith, n))

pub returns-in_default-2-2 : goal.returns-in_default-2-2
returns-in_default-2-2 c =
    says_neither _ (λ n. omega (arith, n))
    (ap comment (sym c.word-first.ensures.result_value) ∙ sym (comment_tested _) ∙ sym c.if-starts_with.ensures.value)
    (λ n e. omega (arith, n))
    (λ n e. word_other _ _ c.if-eq-2.ensures (c.word-first.ensures.result_value ∙ e))

pub returns-in_default-2-3 : goal.returns-in_default-2-3
returns-in_default-2-3 c =
    says_neither _ (λ n. omega (arith, n))
    (ap comment (sym c.word-first.ensures.result_value) ∙ sym (comment_tested _) ∙ sym c.if-starts_with.ensures.value)
    (λ n e. omega (arith, n))
    (λ n e. omega (arith, n))
