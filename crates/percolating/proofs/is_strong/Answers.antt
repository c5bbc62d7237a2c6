use mathlib.Core.Path.{ap, ◌∙◌}
use Prim.Native.Nat.{ℕ}
use lib.ListN.{get_or}
use lib.Ieee.{nan}
use Rattle.percolation.specs.Strength.{weakest_of}
use Rattle.products.specs.Measures.{strong_enough}
use Rattle.products.specs.Model.{table_weights}
use Rattle.percolating.proofs.is_strong.Goals as goal

pub returns : goal.returns
returns c =
    let a = c.args in
    c.strong_enough.ensures
    ∙ ap (λ (x : ℕ). strong_enough a.measure (weakest_of (table_weights a.weights.now x)) (get_or a.list.products.now a.i nan)) c.at-set.ensures
