-- What 15 counts for a meeting by the maximal-clique run. Assumes nothing.
use Rattle.std.specs.Prelude.{Bool, List, ℕ}
use Rattle.sets.specs.Lists.{all}
use Rattle.percolation.specs.Levels.{levels}
use Rattle.percolation.specs.Steps.{enough}
use Rattle.sheet.specs.Sheet.{links_of}
use Rattle.runs.specs.OnSheet.{maximals_for}

-- n slots are enough for the maximal cliques at each weight of the sheet
unfoldable pub levels_fit : List ℕ → ℕ → ℕ → Bool
unfolding all levels enough maximals_for links_of
levels_fit s k n = all (λ w. enough n (maximals_for s k w)) (levels (links_of s))
