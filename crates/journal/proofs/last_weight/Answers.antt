use native.Mathlib.Omega.{arith}
use mathlib.Core.Path.{ap, ◌∙◌}
use Rattle.percolation.specs.Links.{Link}
use Rattle.journal.specs.Model.{entry_link}
use Rattle.journal.proofs.Entries.{last_none, last_some}
use Rattle.journal.proofs.last_weight.Goals as goal

pub returns-in_default : goal.returns-in_default
returns-in_default c = last_none _ (omega (arith, c.in_default.ensures.item.3))

pub returns : goal.returns
returns c =
    let last = c.in-Some.ensures.item in
    last_some _ _ last.3.0 (c.from.ensures ∙ ap (λ (l : Link). l.weight) (c.link_of.ensures ∙ ap entry_link (last.3.1 0)))
