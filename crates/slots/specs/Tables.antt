-- The four tables of the sequential run as lists, and how many slots may be used. Assumes nothing.
use Rattle.std.specs.Prelude.{◌≡◌, true, List, ℕ, min, length}
use Rattle.sets.specs.Value.{sized}
use Rattle.percolation.specs.Ranges.{most_slots}
unfoldable pub use Rattle.joining.specs.Entries.{root_of}

-- the four tables, and how many slots are used
pub record Tables : Type 0 where
  pub sets : List ℕ
  pub entries : List ℕ
  pub smallest : List ℕ
  pub unions : List ℕ
  pub used : ℕ

abbrev pub tables : List ℕ → List ℕ → List ℕ → List ℕ → ℕ → Tables
tables s e m u n = record { sets = s; entries = e; smallest = m; unions = u; used = n }

-- tables of as many sets as there are joining entries, and no word more
pub record Level (T : Tables) : Type 0 where
  pub sets : sized T.sets (length T.entries) ≡ true
  pub smallest : sized T.smallest (length T.entries) ≡ true
  pub unions : sized T.unions (length T.entries) ≡ true

-- how many slots may be used
unfoldable pub room : List ℕ → ℕ
room es = min (length es) most_slots
