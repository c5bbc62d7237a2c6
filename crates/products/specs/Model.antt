-- Model of the code: the weights of a set's pairs in a table of weights by pair. Assumes nothing.
use Rattle.std.specs.Prelude.{List, map, ℕ, ◌+◌, ◌*◌, get_or}
use Rattle.sets.specs.Sets.{members}
use Rattle.sets.specs.Value.{width}
use Rattle.percolation.specs.Strength.{pairs_of}

-- the weight of q and r, q the lower part: 0 past the end
unfoldable pub pair_weight : List ℕ → ℕ → ℕ → ℕ
pair_weight T q r = get_or T (q * width + r) 0

-- the weights of the pairs of s, by lower then higher part
unfoldable pub table_weights : List ℕ → ℕ → List ℕ
unfolding pair_weight pairs_of
table_weights T s = map (λ e. pair_weight T e.0 e.1) (pairs_of width s)

-- the weights of q and each part of s, rising
abbrev pub part_weights : List ℕ → ℕ → ℕ → List ℕ
part_weights T q s = map (pair_weight T q) (members width s)
