use mathlib.Core.Path.{◌≡◌}
use mathlib.Core.List.{foldl}
use Prim.Native.Nat.{min}
use Rattle.sets.specs.Value.{num}
use Rattle.sets.specs.Rest.{left_of}
use Rattle.products.specs.Products.{times_of}
use Rattle.products.specs.Model.{part_weights}
use Rattle.products.proofs.strength_with.Given as goal

-- The weights left, from the strength as it is, give what all of them give from the strength at the start. Assumes nothing.
abbrev pub invariant-loop-r : goal.invariant-loop-r
invariant-loop-r l =
    (foldl times_of l.product (part_weights l.weights l.q (left_of l.r-iterator)) ≡ foldl times_of l.initial.product (part_weights l.weights l.q (num l.fn.t)))
    × (foldl min l.weakest (part_weights l.weights l.q (left_of l.r-iterator)) ≡ foldl min l.initial.weakest (part_weights l.weights l.q (num l.fn.t)))
