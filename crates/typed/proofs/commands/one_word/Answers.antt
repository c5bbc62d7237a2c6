use mathlib.Core.Bool.{true≢false}
use mathlib.Core.Path.{sym, ap, ◌∙◌}
use Rattle.typed.specs.Commands.{word_asks}
use Rattle.typed.proofs.Asked.{asks_unknown}
use Rattle.typed.proofs.commands.one_word.Goals as goal

pub returns-then-is_alone : goal.returns-then-is_alone
unfolding word_asks
returns-then-is_alone c = sym (ap word_asks (c.is_alone.ensures.0 c.if-is_alone.true))

pub returns-then-is_alone-2 : goal.returns-then-is_alone-2
unfolding word_asks
returns-then-is_alone-2 c = sym (ap word_asks (c.is_alone-else-is_alone.ensures.0 c.if-is_alone-2.true))

pub returns-then-is_alone-3 : goal.returns-then-is_alone-3
unfolding word_asks
returns-then-is_alone-3 c = sym (ap word_asks (c.is_alone-else-is_alone-2.ensures.0 c.if-is_alone-3.true))

pub returns-else-is_alone-3 : goal.returns-else-is_alone-3
returns-else-is_alone-3 c =
    sym (asks_unknown _
    (λ e. true≢false (sym (c.is_alone.ensures.1 e) ∙ c.if-is_alone.false))
    (λ e. true≢false (sym (c.is_alone-else-is_alone.ensures.1 e) ∙ c.if-is_alone-2.false))
    (λ e. true≢false (sym (c.is_alone-else-is_alone-2.ensures.1 e) ∙ c.if-is_alone-3.false)))
