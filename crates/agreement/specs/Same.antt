-- A sheet that has exactly the links of a list, equal weights in any order, and demand 3's claim on lists of inserts and takings back and such sheets. Assumes nothing.
use Rattle.std.specs.Prelude.{◌≡◌, List, [], ℕ}
use Rattle.answers.specs.Verdict.{accepted}
use Rattle.answers.specs.Answers.{Answer, Said, counts, says}
use Rattle.sets.specs.Lists.{◌∈◌}
use Rattle.percolation.specs.Percolate.{ChainListing}
use Rattle.percolation.specs.Links.{Link, cliques, listing}
use Rattle.percolation.specs.Steps.{Step, remaining_links}
use Rattle.slots.specs.Tables.{Tables}
use Rattle.sheet.specs.Sheet.{links_of, check_sheet}
use Rattle.listings.specs.Listing.{Gives}
use Rattle.runs.specs.OnSheet.{ListingMeets}
use Rattle.states.specs.declared.State.{State}
use Rattle.sequential.specs.EveryList.{Claim}

-- s is accepted, each of its links is one of L, and each of L is one of its links; its part count is its own
pub record HasLinks (s : List ℕ) (L : List Link) : Type 0 where
  pub fine : check_sheet s ≡ accepted
  pub some : (l : Link) → l ∈ links_of s → l ∈ L
  pub each : (l : Link) → l ∈ L → l ∈ links_of s

-- a call that is not refused gives the listing of the chain classes of the k-cliques of L: j is what it counts, `out` the output, which was `old` before it
pub record GivesChains (p k : ℕ) (L : List Link) (old : List ℕ) (j : ℕ) (out : List ℕ) : Type 0 where
  pub chains : ChainListing k (cliques L p k) (listing L p k 0)
  pub gives : Gives (listing L p k 0) old j out

-- what is claimed of the steps X, which gave the answers A and left the state S, the tables W and the journal J, where the tables have n slots
pub record EverySheet (p k n : ℕ) (X : List Step) (A : List Said) (S : State) (W : Tables) (J : List ℕ) : Type 0 where
  pub claim : Claim p k n X A S W J
  -- either run on a sheet with exactly the links that remain (c is what its 15 counts) gives their listing, or is refused
  pub sheets : (s : List ℕ) → HasLinks s (remaining_links p k n [] X) → (c : ℕ) (T : Tables) (old : List ℕ) (r : Answer) (U : Tables) (out : List ℕ)
      → ListingMeets c s k 0 T old r U out → (j : ℕ) → says r ≡ counts j → GivesChains p k (remaining_links p k n [] X) old j out
