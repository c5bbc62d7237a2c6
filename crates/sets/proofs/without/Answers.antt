use mathlib.Core.Path.{ap, ◌∙◌}
use Rattle.sets.proofs.Held.{held}
use Rattle.sets.proofs.Laws.{minus_single}
use Rattle.sets.specs.Sets.{minus}
use Rattle.sets.specs.Value.{num, width}
use Rattle.sets.proofs.without.Goals as goal

pub returns : goal.returns
returns c =
    let a = c.args in
    c.minus.ensures ∙ ap (minus (num a.s)) c.single.ensures ∙ minus_single width a.q (num a.s) (held a.s c.well_formed.0)
