use mathlib.Core.Path.{ap, ◌∙◌}
use Rattle.sets.specs.Value.{num, store}
use Rattle.slots.proofs.merge.Goals as goal

pub returns : goal.returns
returns g c = λ f computes. c.put.ensures ∙ ap (store _ _) (computes _ _ _ c.f-merged.ensures ∙ ap (λ (n : _). f n (num c.args.s)) c.at.ensures)
