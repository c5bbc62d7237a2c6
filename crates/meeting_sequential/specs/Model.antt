-- Model of the code: what a meeting by the sequential run knows of a sheet's first links on the way. What follows is proved of it
-- (proofs/Turns.antt). Assumes nothing.
use Rattle.std.specs.Prelude.{◌≡◌, true, false, List, ℕ, suc, ◌≤◌, ◌<◌, length, get_or, take, drop}
use Rattle.sets.specs.Lists.{◌∈◌}
use Rattle.percolation.specs.Percolate.{joined}
use Rattle.percolation.specs.Links.{Link, link, inside, cliques, slots}
use Rattle.checks.specs.Neighbours.{Neighbours}
use Rattle.slots.specs.Tables.{Tables, room}
use Rattle.slots_theory.specs.Shows.{Shows}
use Rattle.sheet.specs.Sheet.{parts, links, links_of}

-- n is one more than the number of the last link inside x, 0 where there is none
pub record Complete (L : List Link) (x n : ℕ) : Type 0 where
  pub within : n ≤ length L
  pub last : (j : ℕ) → n ≡ suc j → inside x (get_or L j (link 0 0 0)) ≡ true
  pub later : (l : Link) → l ∈ drop n L → inside x l ≡ false

-- The first n links of the sheet s are in: the rows R hold them, the tables T show their k-cliques and have room for those of all links. Both a and b
-- are among these k-cliques, and no fewer links join them.
pub record Taken (s : List ℕ) (k a b n : ℕ) (R : List ℕ) (T : Tables) : Type 0 where
  pub some : 1 ≤ n
  pub within : n ≤ links s
  pub near : Neighbours (take n (links_of s)) R
  pub shows : Shows (parts s) k (cliques (take n (links_of s)) (parts s) k) T
  pub fits : slots (parts s) k (cliques (links_of s) (parts s) k) ≤ room T.entries
  pub first : a ∈ cliques (take n (links_of s)) (parts s) k
  pub second : b ∈ cliques (take n (links_of s)) (parts s) k
  pub apart : (m : ℕ) → m < n → joined k (cliques (take m (links_of s)) (parts s) k) a b ≡ false
