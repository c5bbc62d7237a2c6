-- What a step of the walk over the levels of a sheet takes. Assumes nothing.
use Rattle.std.specs.Prelude.{◌≡◌, List, ℕ, ◌<◌, ◌≤◌, take, drop}
use Rattle.percolation.specs.Links.{heavy}
use Rattle.sheet.specs.Sheet.{links, link_of, links_of}
use Rattle.slots.specs.Tables.{Tables}
use Rattle.runs.specs.Model.{rows_with, took_links}

-- The links of the sheet s from i on and below j are a level of the weight w: they go into the rows of neighbours, R before and Q after, and with their
-- k-cliques into the tables, T before and U after.
pub record TakesLevel (s : List ℕ) (k i j w : ℕ) (R Q : List ℕ) (T U : Tables) : Type 0 where
  pub more : i < j
  pub few : j ≤ links s
  pub weighs : w ≡ (link_of s i).weight
  pub first : take j (links_of s) ≡ heavy w (links_of s)
  pub tables : U ≡ took_links k R T (drop i (take j (links_of s)))
  pub rows : Q ≡ rows_with R (drop i (take j (links_of s)))
