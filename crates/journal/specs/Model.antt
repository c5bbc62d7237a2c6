-- Model of the code: the links that entries stand for, and tables without the last of them. What that means is proved of it (proofs/Entries.antt). Assumes nothing.
use Rattle.std.specs.Prelude.{Bool, cond, List, map, ℕ, ◌/◌, ◌%◌, eqb, length, get_or, take}
use Rattle.sets.specs.Lists.{keep}
use Rattle.sets.specs.Value.{no_rows}
use Rattle.percolation.specs.Links.{Link, link}
use Rattle.percolation.specs.Steps.{good_parts}
use Rattle.slots.specs.Tables.{Tables}
use Rattle.search.specs.Model.{new_cliques}
use Rattle.runs.specs.Lent.{cleared}
use Rattle.runs.specs.Model.{took_links}

-- the link of an entry
unfoldable pub entry_link : ℕ → Link
entry_link e = link (e / 4294967296) (e / 65536 % 65536) (e % 65536)

-- the links of entries, without those that 6 would refuse: a journal that no list of steps left may hold any number
unfoldable pub readable : ℕ → List ℕ → List Link
unfolding keep good_parts entry_link
readable p J = keep (good_parts p) (map entry_link J)

-- the link of the entry e makes no k-clique with the links of the rows R
unfoldable pub makes_none : List ℕ → ℕ → ℕ → Bool
unfolding new_cliques entry_link
makes_none R k e = eqb (length (new_cliques R k (entry_link e).low (entry_link e).high)) 0

-- the tables T without the link of entry n of J, where R are the rows of the entries before it
unfoldable pub refilled : ℕ → ℕ → List ℕ → Tables → List ℕ → ℕ → Tables
unfolding makes_none took_links no_rows cleared readable
refilled p k R T J n = cond (makes_none R k (get_or J n 0)) T (took_links k no_rows (cleared T) (readable p (take n J)))
