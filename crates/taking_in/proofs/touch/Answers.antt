use mathlib.Core.Path.{ap, ◌∙◌}
use Rattle.sets.specs.Sets.{union, lesser}
use Rattle.joining.specs.Entries.{root_of}
use Rattle.slots.specs.Tables.{Tables}
use Rattle.slots.proofs.Steps.{touch_is}
use Rattle.taking_in.proofs.touch.Goals as goal

pub returns-clause-slots_after : goal.returns-clause-slots_after
returns-clause-slots_after c =
    touch_is _ _ _ _ c.requires
    (c.root-r.ensures.0 ∙ ap (λ (T : Tables). root_of T.entries c.args.first) (c.view.ensures 0))
    (c.merge.ensures lesser (λ s t u e. e.2)) (c.merge-2.ensures union (λ s t u e. e.2))
