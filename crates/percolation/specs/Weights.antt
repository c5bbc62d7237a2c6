-- Numbers added up, and the weights of links. Assumes nothing.
use Rattle.std.specs.Prelude.{List, [], ◌∷◌, map, ℕ, ◌+◌}
use Rattle.percolation.specs.Links.{Link}

unfoldable pub sum : List ℕ → ℕ
sum [] = 0
sum (n ∷ l) = n + sum l

-- the weights of links added up
unfoldable pub weight_sum : List Link → ℕ
unfolding sum
weight_sum K = sum (map (λ l. l.weight) K)
