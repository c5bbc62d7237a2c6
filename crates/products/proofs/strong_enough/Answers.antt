use mathlib.Core.Path.{sym, ap, ◌∙◌}
use Prim.Native.Nat.{ℕ}
use Rattle.sets.specs.Value.{num}
use Rattle.percolation.specs.Strength.{weakest_of}
use Rattle.products.specs.declared.Measure.{Measure}
use Rattle.products.specs.Measures.{strong_enough}
use Rattle.products.specs.Model.{table_weights}
use Rattle.products.proofs.strong_enough.Goals as goal

pub returns-in-Weakest : goal.returns-in-Weakest
unfolding strong_enough
returns-in-Weakest c =
    let a = c.args in
    sym (ap (λ (m : Measure). strong_enough m c.weakest.result a.scored.product) c.in-Weakest.is)
    ∙ ap (λ (w : ℕ). strong_enough a.measure w a.scored.product) c.weakest.ensures

pub returns-in-Product : goal.returns-in-Product
unfolding strong_enough
returns-in-Product c =
    let a = c.args in
    let w = weakest_of (table_weights a.weights.now (num a.scored.set)) in
    sym (ap (λ (m : Measure). strong_enough m w a.scored.product) c.in-Product.is)
