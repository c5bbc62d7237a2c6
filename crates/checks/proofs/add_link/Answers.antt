use mathlib.Core.Path.{ap, ◌∙◌}
use mathlib.Core.List.{List}
use Prim.Native.Nat.{ℕ}
use Rattle.checks.specs.Model.{with_neighbour, marked}
use Rattle.checks.proofs.add_link.Goals as goal

pub returns : goal.returns
unfolding marked
returns c =
    let a = c.args in
    c.mark-2.ensures ∙ ap (λ (R : List ℕ). with_neighbour R a.link.high a.link.low) c.mark.ensures
