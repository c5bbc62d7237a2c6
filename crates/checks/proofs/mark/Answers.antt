use mathlib.Core.Path.{ap, ◌∙◌}
use mathlib.Core.Bool.{cond}
use Prim.Native.Nat.{ℕ}
use lib.Dec.{ltb}
use Rattle.sets.specs.Sets.{into}
use Rattle.sets.specs.Value.{width, store}
use Rattle.checks.specs.Model.{with_neighbour}
use Rattle.checks.proofs.mark.Goals as goal

pub returns : goal.returns
unfolding with_neighbour
returns c =
    let a = c.args in
    c.put.ensures
    ∙ ap (store a.rows.now a.a)
    (c.with-near.ensures
    ∙ ap (λ (s : ℕ). cond (ltb a.b width) (into a.b s) s) c.at.ensures)
