-- Model of the code: rows of neighbours and tables with links more. What they show then is proved of it (proofs/Ran.antt). Assumes nothing.
use Rattle.std.specs.Prelude.{List, [], ◌∷◌, ℕ}
use Rattle.percolation.specs.Links.{Link}
use Rattle.checks.specs.Model.{marked}
use Rattle.slots.specs.Tables.{Tables}
use Rattle.search.specs.Model.{new_cliques}
use Rattle.clique_taking.specs.Model.{took_all}

-- the rows with these links more
unfoldable pub rows_with : List ℕ → List Link → List ℕ
unfolding marked
rows_with R [] = R
rows_with R (l ∷ L) = rows_with (marked R l.low l.high) L

-- the tables, whose links stand in the rows R, with these links more
unfoldable pub took_links : ℕ → List ℕ → Tables → List Link → Tables
unfolding marked new_cliques took_all
took_links k R T [] = T
took_links k R T (l ∷ L) = took_links k (marked R l.low l.high) (took_all T (new_cliques R k l.low l.high)) L
