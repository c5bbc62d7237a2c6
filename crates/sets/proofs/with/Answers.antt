use mathlib.Core.Path.{ap, ◌∙◌}
use Rattle.sets.proofs.Laws.{union_single}
use Rattle.sets.specs.Sets.{union}
use Rattle.sets.specs.Value.{num, width}
use Rattle.sets.proofs.with.Goals as goal

pub returns : goal.returns
returns c =
    let a = c.args in
    c.union.ensures ∙ ap (union (num a.s)) c.single.ensures ∙ union_single width a.q (num a.s)
