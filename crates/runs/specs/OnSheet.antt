-- A call on a sheet with an output: its checks in order and what it must do; the listing at a threshold by either run. Assumes nothing.
use Rattle.std.specs.Prelude.{◌≡◌, Bool, List, ℕ, length}
use Rattle.answers.specs.Verdict.{Verdict, ◌then◌, unless}
use Rattle.answers.specs.Answers.{Answer}
use Rattle.percolation.specs.Percolate.{Community, communities, listing_bytes}
use Rattle.percolation.specs.Links.{Link, heavy, cliques, family, slots, listing, maximals}
use Rattle.percolation.specs.Steps.{enough}
use Rattle.sheet.specs.Sheet.{parts, links_of}
use Rattle.slots.specs.Tables.{Tables}
use Rattle.listings.specs.Listing.{check_out, Writes}
use Rattle.runs.specs.declared.Method.{Method}
use Rattle.runs.specs.declared.Method.TheVariants.{Sequential, Maximal}
use Rattle.runs.specs.Lent.{check_call, left}

-- ---- any such call: n is what its answer counts, B what it writes, old the output before it and out that after it

-- from 15 on: what 15 counts fits the slots or not, then 16 for an output of m bytes
unfoldable pub check_run : Bool → List ℕ → ℕ → Verdict
unfolding check_out unless ◌then◌
check_run fits B m = unless fits 15 0 then check_out B m

-- what is to be done where the checks before 15 let the call pass
abbrev pub RunMeets : Bool → ℕ → List ℕ → List ℕ → Answer → List ℕ → Type 0
RunMeets fits n B old r out = Writes (check_run fits B (length old)) n B old r out

-- what the whole call must do, with the checks before 15: r is its answer, T are the tables before it and U those after it
pub record CallMeets (before : Verdict) (fits : Bool) (n : ℕ) (B : List ℕ) (T : Tables) (old : List ℕ) (r : Answer) (U : Tables) (out : List ℕ) : Type 0 where
  pub writes : Writes (before then check_run fits B (length old)) n B old r out
  -- zeroed whenever it came as far as 15
  pub tables : U ≡ left before T

-- ---- the listing

-- what a run must do for the listing of the links L of parts below p
abbrev pub RunLists : Bool → List Link → ℕ → ℕ → List ℕ → Answer → List ℕ → Type 0
RunLists fits L p k old r out = RunMeets fits (length (communities k (cliques L p k))) (listing_bytes (communities k (cliques L p k))) old r out

-- the listing of a sheet
unfoldable pub listing_of : List ℕ → ℕ → ℕ → List Community
unfolding listing links_of
listing_of s k t = listing (links_of s) (parts s) k t

-- what 15 counts for the links of weight t or more: by the sequential run, and by the maximal-clique run
unfoldable pub slots_for : List ℕ → ℕ → ℕ → ℕ
unfolding slots family links_of
slots_for s k t = slots (parts s) k (family (links_of s) (parts s) k t)

unfoldable pub maximals_for : List ℕ → ℕ → ℕ → ℕ
unfolding maximals heavy links_of
maximals_for s k t = length (maximals (heavy t (links_of s)) (parts s) k)

-- and for all links, by the sequential run
abbrev pub slots_of : List ℕ → ℕ → ℕ
slots_of s k = slots (parts s) k (cliques (links_of s) (parts s) k)

-- what 15 counts, by either run
unfoldable pub count_for : Method → List ℕ → ℕ → ℕ → ℕ
unfolding slots_for maximals_for
count_for Sequential s k t = slots_for s k t
count_for Maximal s k t = maximals_for s k t

-- what either run must do, with n slots
abbrev pub MethodMeets : Method → List ℕ → ℕ → ℕ → ℕ → List ℕ → Answer → List ℕ → Type 0
MethodMeets m s k t n old r out = RunMeets (enough n (count_for m s k t)) (length (listing_of s k t)) (listing_bytes (listing_of s k t)) old r out

-- what the call must do, where 15 counts c cliques
abbrev pub ListingMeets : ℕ → List ℕ → ℕ → ℕ → Tables → List ℕ → Answer → Tables → List ℕ → Type 0
ListingMeets c s k t T old r U out =
    CallMeets (check_call s k T) (enough (length T.entries) c) (length (listing_of s k t)) (listing_bytes (listing_of s k t)) T old r U out
