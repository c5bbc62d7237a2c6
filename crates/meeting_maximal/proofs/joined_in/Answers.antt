use mathlib.Core.Path.{◌∙◌}
use Rattle.meeting_maximal.proofs.Joined.{apart, class_tells}
use Rattle.meeting_maximal.proofs.joined_in.Goals as goal

pub returns-in_default : goal.returns-in_default
returns-in_default c = λ L p st one sa sb. apart L p _ _ _ st one _ _ sa sb c.in_default.ensures

pub returns : goal.returns
returns c =
    let h = c.in-Some.ensures in
    λ L p st one sa sb. c.is_some.ensures
    ∙ class_tells L p _ _ _ st one _ _ sa sb _ h.0 h.2 _ _ _ _ _ c.swap.ensures c.class_at-class.ensures.whole_after _ c.holder-2.ensures
