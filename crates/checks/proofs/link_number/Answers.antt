use mathlib.Core.Path.{sym, ap, ◌∙◌}
use Rattle.sets.specs.Sets.{has}
use Rattle.checks.proofs.Numbers.{parts_alone, number_6, number_7, number_8, number_9, number_0}
use Rattle.checks.proofs.link_number.Goals as goal

pub returns-then-not-good_parts : goal.returns-then-not-good_parts
returns-then-not-good_parts c = number_6 _ _ _ _ (parts_alone _ _ _ _ _ ∙ sym c.good_parts.ensures ∙ c.if-not-good_parts.true)

pub returns-then-weight-eq0 : goal.returns-then-weight-eq0
returns-then-weight-eq0 c = number_7 _ _ _ _ (parts_alone _ _ _ _ _ ∙ sym c.good_parts.ensures ∙ c.if-not-good_parts.false) c.if-weight-eq0.true

pub returns-then-before-weight : goal.returns-then-before-weight
returns-then-before-weight c = number_8 _ _ _ _ (parts_alone _ _ _ _ _ ∙ sym c.good_parts.ensures ∙ c.if-not-good_parts.false) c.if-weight-eq0.false c.if-before-weight.true

pub returns-then-has : goal.returns-then-has
returns-then-has c =
    number_9 _ _ _ _ (parts_alone _ _ _ _ _ ∙ sym c.good_parts.ensures ∙ c.if-not-good_parts.false) c.if-weight-eq0.false c.if-before-weight.false
    (ap (has _) (sym c.at.ensures) ∙ sym c.has.ensures ∙ c.if-has.true)

pub returns : goal.returns
returns c =
    number_0 _ _ _ _ (parts_alone _ _ _ _ _ ∙ sym c.good_parts.ensures ∙ c.if-not-good_parts.false) c.if-weight-eq0.false c.if-before-weight.false
    (ap (has _) (sym c.at.ensures) ∙ sym c.has.ensures ∙ c.if-has.false)
