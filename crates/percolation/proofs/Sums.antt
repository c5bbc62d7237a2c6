-- Numbers and weights added up. Assumes nothing.
use mathlib.Core.Path.{◌≡◌, refl, ap, ◌∙◌}
use mathlib.Core.List.{List, [], ◌∷◌, ◌++◌, map}
use Prim.Native.Nat.{ℕ, ◌+◌}
use native.Mathlib.Omega.{arith}
use Rattle.sets.proofs.ListLaws.{map_append}
use Rattle.percolation.specs.Links.{Link}
use Rattle.percolation.specs.Weights.{sum, weight_sum}

pub sum_none : sum [] ≡ 0
unfolding sum
sum_none = refl

pub sum_first : (n : ℕ) (l : List ℕ) → sum (n ∷ l) ≡ n + sum l
unfolding sum
sum_first n l = refl

pub sum_append : (l m : List ℕ) → sum (l ++ m) ≡ sum l + sum m
unfolding sum
sum_append [] m = omega arith
sum_append (n ∷ l) m = omega (arith, sum_append l m)

-- ---- links

pub weight_none : weight_sum [] ≡ 0
unfolding weight_sum sum
weight_none = refl

pub weight_first : (x : Link) (K : List Link) → weight_sum (x ∷ K) ≡ x.weight + weight_sum K
unfolding weight_sum
weight_first x K = sum_first x.weight (map (λ l. l.weight) K)

pub weight_append : (K M : List Link) → weight_sum (K ++ M) ≡ weight_sum K + weight_sum M
unfolding weight_sum
weight_append K M = ap sum (map_append (λ l. l.weight) K M) ∙ sum_append (map (λ l. l.weight) K) (map (λ l. l.weight) M)
