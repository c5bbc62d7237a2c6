-- The rows of neighbours that the code keeps of the links so far, and their last weight. Assumes nothing.
use Rattle.std.specs.Prelude.{◌≡◌, [], List, ◌∷◌, ℕ, ◌<◌, ◌^◌}
use Rattle.sets.specs.Sets.{has}
use Rattle.sets.specs.Value.{width, rows, row}
use Rattle.percolation.specs.Links.{Link, linked}

-- the rows R hold the links L: part b is in row a exactly when a and b are linked
pub record Neighbours (L : List Link) (R : List ℕ) : Type 0 where
  pub count : rows R ≡ width
  pub fits : (a : ℕ) → row R a < 2 ^ width
  pub near : (a b : ℕ) → a < width → b < width → has b (row R a) ≡ linked L a b

-- the weight of the last link; the largest weight there is, where there is no link
unfoldable pub last_weight : List Link → ℕ
last_weight [] = 65535
last_weight (b ∷ []) = b.weight
last_weight (b ∷ c ∷ L) = last_weight (c ∷ L)
