use mathlib.Core.Path.{◌≡◌}
use mathlib.Core.List.{foldl}
use Prim.Native.Nat.{min}
use Rattle.sets.specs.Value.{num}
use Rattle.sets.specs.Rest.{left_of}
use Rattle.products.specs.Products.{float_of, times_of}
use Rattle.products.specs.Model.{table_weights}
use Rattle.products.proofs.strength_of.Given as goal

-- The pairs left, from the strength as it is, give what all of them give from 1 and from the heaviest weight. Assumes nothing.
abbrev pub invariant-loop-q : goal.invariant-loop-q
invariant-loop-q l =
    (foldl times_of l.strength.product (table_weights l.weights (left_of l.q-iterator.parts)) ≡ foldl times_of (float_of 1) (table_weights l.weights (num l.fn.set)))
    × (foldl min l.strength.weakest (table_weights l.weights (left_of l.q-iterator.parts)) ≡ foldl min 65535 (table_weights l.weights (num l.fn.set)))
