-- How many lines some bytes hold. Assumes nothing.
use Rattle.std.specs.Prelude.{List, ℕ, ◌/◌, length}
use Rattle.percolation.specs.Tree.{line_length}

abbrev pub line_count : List ℕ → ℕ
line_count b = length b / line_length
