-- How strong a clique is: the weights of its links, pair by pair, and its weakest link; the cliques that pass a test of strength, and their listing. The
-- product, a float, is products'. Assumes nothing.
use Rattle.std.specs.Prelude.{Bool, true, false, ℕ, min, leb}
use mathlib.Core.List.{List, [], ◌∷◌, ◌++◌, map, foldr}
use Rattle.sets.specs.Lists.{keep}
use Rattle.sets.specs.Sets.{members}
use Rattle.percolation.specs.Percolate.{Community, communities}
use Rattle.percolation.specs.Links.{Link, joins, cliques}

-- the weight of the first link that joins q and r, 0 where none does
unfoldable pub weight_between : List Link → ℕ → ℕ → ℕ
unfolding joins
weight_between [] q r = 0
weight_between (l ∷ L) q r = elim (joins q r l) [ true ↦ l.weight | false ↦ weight_between L q r ]

-- each two of a list, the earlier first
unfoldable pub each_pair : List ℕ → List (ℕ × ℕ)
each_pair [] = []
each_pair (q ∷ l) = map (λ r. (q, r)) l ++ each_pair l

-- the pairs of parts of s, a set of parts below p, by lower then higher part
unfoldable pub pairs_of : ℕ → ℕ → List (ℕ × ℕ)
unfolding each_pair members
pairs_of p s = each_pair (members p s)

-- the weights of the links of a clique s, in the order of its pairs
unfoldable pub weights_in : List Link → ℕ → ℕ → List ℕ
unfolding weight_between pairs_of
weights_in L p s = map (λ e. weight_between L e.0 e.1) (pairs_of p s)

-- the least of weights of 16 bits
unfoldable pub weakest_of : List ℕ → ℕ
weakest_of W = foldr min 65535 W

-- the weakest link of s weighs t or more
unfoldable pub by_weakest : List Link → ℕ → ℕ → ℕ → Bool
unfolding weights_in weakest_of
by_weakest L p t s = leb t (weakest_of (weights_in L p s))

-- the k-cliques that pass a test of strength, and the listing of their communities
unfoldable pub strong : List Link → ℕ → ℕ → (ℕ → Bool) → List ℕ
unfolding keep cliques
strong L p k test = keep test (cliques L p k)

unfoldable pub strong_listing : List Link → ℕ → ℕ → (ℕ → Bool) → List Community
unfolding strong communities
strong_listing L p k test = communities k (strong L p k test)
