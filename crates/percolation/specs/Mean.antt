-- The mean link weight of a family, a community of k-cliques: the links that lie in its cliques, and their mean as a whole number with an exact
-- remainder. Assumes nothing.
use Rattle.std.specs.Prelude.{Bool, ◌&&◌, List, ℕ, ◌/◌, ◌%◌, length}
use Rattle.sets.specs.Lists.{any, keep}
use Rattle.percolation.specs.Percolate.{joined}
use Rattle.percolation.specs.Links.{Link, inside, family}
use Rattle.percolation.specs.Weights.{weight_sum}

-- l lies in some member of F that is joined to c: both its ends are parts of that one member
unfoldable pub in_family : ℕ → List ℕ → ℕ → Link → Bool
unfolding any inside joined
in_family k F c l = any (λ a. inside a l && joined k F c a) F

-- the links that lie in some k-clique of the family of c at threshold t
unfoldable pub family_links : List Link → ℕ → ℕ → ℕ → ℕ → List Link
unfolding keep in_family family
family_links L p k t c = keep (in_family k (family L p k t) c) L

-- the sum of the weights, the number of links, the whole quotient and the remainder
pub record Mean : Type 0 where
  pub sum : ℕ
  pub links : ℕ
  pub quotient : ℕ
  pub remainder : ℕ

abbrev pub mean : ℕ → ℕ → ℕ → ℕ → Mean
mean s n q r = record { sum = s; links = n; quotient = q; remainder = r }

unfoldable pub mean_of : List Link → Mean
unfolding weight_sum
mean_of K = mean (weight_sum K) (length K) (weight_sum K / length K) (weight_sum K % length K)
