-- Model of the meeting weight by the maximal-clique run: what a table holds after a level's cliques were taken into it. Assumes nothing.
use Rattle.std.specs.Prelude.{List, ℕ, ◌≤◌, ◌<◌, ◌^◌, length}
use Rattle.sets.specs.Value.{width, rows, row}
use Rattle.overlaps.proofs.Moves.{Holding}

-- the first n rows of the table T are the sets of M
pub record Stands (M : List ℕ) (n : ℕ) (T : List ℕ) : Type 0 where
  pub long : n ≤ rows T
  pub fits : (i : ℕ) → i < n → row T i < 2 ^ width
  pub holds : Holding n M T

-- the table T with the sets of M, where it has room for so many, and n, which says whether it had
pub record Filled (M : List ℕ) (room n : ℕ) (T : List ℕ) : Type 0 where
  pub fit : length M ≤ room → (n ≤ room) × Stands M n T
  pub full : room < length M → room < n
