-- The ranges of the part count and of k, and the most slots. Assumes nothing.
use Rattle.std.specs.Prelude.{Bool, ◌&&◌, ℕ, leb}
use Rattle.sets.specs.Value.{width}

-- x is at least a and at most b
abbrev pub in_range : ℕ → ℕ → ℕ → Bool
in_range a b x = leb a x && leb x b

-- a part count is 1 to as many parts as a set can hold, and k is 2 to 6
unfoldable pub good_count : ℕ → Bool
good_count p = in_range 1 width p

unfoldable pub good_k : ℕ → Bool
good_k k = in_range 2 6 k

-- the part count of version 1 of a sheet
unfoldable pub narrow_count : ℕ → Bool
narrow_count p = in_range 1 64 p

-- however long the tables are, no more slots are used
abbrev pub most_slots : ℕ
most_slots = 16777216
