-- The rows of a dump as sets: how many of them hold two parts, and how many pairs of parts a row has. Assumes nothing.
use Rattle.std.specs.Prelude.{◌&&◌, List, ℕ, ◌-◌, ◌*◌, ◌/◌, length}
use Rattle.sets.specs.Lists.{keep}
use Rattle.sets.specs.Sets.{has, size}

-- how many rows of R hold both q and r
unfoldable pub together : List ℕ → ℕ → ℕ → ℕ
unfolding keep has
together R q r = length (keep (λ s. has q s && has r s) R)

-- the pairs of parts of s
unfoldable pub pairs_in : ℕ → ℕ
unfolding size
pairs_in s = size s * (size s - 1) / 2
