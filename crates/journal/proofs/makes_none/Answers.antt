use mathlib.Core.Path.{ap₂, ◌∙◌}
use Rattle.sets.specs.Sets.{meet}
use Rattle.journal.proofs.Refilled.{none_made}
use Rattle.journal.proofs.makes_none.Goals as goal

pub returns : goal.returns
returns c =
    none_made _ _ _ _ c.link_of-link.ensures _ _ _ (c.meet-both.ensures ∙ ap₂ meet c.at.ensures c.at-2.ensures) c.empty-none.ensures
    c.count-n.ensures
