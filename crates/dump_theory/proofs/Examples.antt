-- Four rows of four parts, computed: the weight of each pair, and the two sums. Assumes nothing.
use mathlib.Core.List.{[], ◌∷◌, map}
use mathlib.Core.Path.{◌≡◌, refl}
use Rattle.percolation.specs.Links.{link}
use Rattle.percolation.specs.Weights.{sum}
use Rattle.made.specs.Made.{weighed}
use Rattle.dump_theory.specs.Rows.{together, pairs_in}

-- the rows hold parts 0 1 2, parts 0 1, part 3, and no part
pub weighed_4 : weighed (together (7 ∷ 3 ∷ 8 ∷ 0 ∷ [])) 4 ≡ link 0 1 2 ∷ link 0 2 1 ∷ link 1 2 1 ∷ []
unfolding weighed together
weighed_4 = refl

pub sum_4 : sum (map pairs_in (7 ∷ 3 ∷ 8 ∷ 0 ∷ [])) ≡ 4
unfolding sum pairs_in
sum_4 = refl
