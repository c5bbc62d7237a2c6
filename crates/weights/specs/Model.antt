-- Model of the code: a table of the weights of links by pair. Assumes nothing.
use Rattle.std.specs.Prelude.{◌≡◌, List, ℕ, ◌<◌, length, get_or}
use Rattle.sets.specs.Value.{width}
use Rattle.percolation.specs.Links.{Link}
use Rattle.percolation.specs.Strength.{weight_between}
use Rattle.products.specs.Model.{pair_weight}

-- a table of zeros
pub record Blank (T : List ℕ) : Type 0 where
  pub places : length T ≡ 4096
  pub zeros : (i : ℕ) → i < 4096 → get_or T i 0 ≡ 0

-- the table has the weight of each pair
pub record Weighs (L : List Link) (T : List ℕ) : Type 0 where
  pub places : length T ≡ 4096
  pub weights : (q r : ℕ) → q < r → r < width → pair_weight T q r ≡ weight_between L q r
