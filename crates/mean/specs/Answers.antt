-- The mean link weight of a family of a sheet: what each case of the answer says, what is checked, in order, and what the call must do. Assumes nothing.
use Rattle.std.specs.Prelude.{◌≡◌, Bool, List, ℕ, eqb, length, Result, Ok, Err}
use Rattle.answers.specs.declared.Refusal.{Refusal}
use Rattle.answers.specs.Faults.{number_of}
use Rattle.answers.specs.Verdict.{Verdict, accepted, refused, ◌then◌, unless}
use Rattle.sets.specs.Lists.{any}
use Rattle.percolation.specs.Links.{family}
use Rattle.percolation.specs.Steps.{enough}
use Rattle.percolation.specs.Mean.{family_links, Mean, mean, mean_of}
use Rattle.sheet.specs.Sheet.{parts, links_of}
use Rattle.slots.specs.Tables.{Tables}
use Rattle.runs.specs.Lent.{check_call, left}
use Rattle.runs.specs.OnSheet.{slots_for}
use Rattle.mean.specs.declared.FamilyMean.{FamilyMean}

-- a mean, or a refusal
pub data MeanSaid : Type 0 where
  gives : Mean → MeanSaid
  refuses : ℕ → ℕ → MeanSaid

abbrev pub mean_says : Result FamilyMean Refusal → MeanSaid
mean_says (Ok m) = gives (mean m.sum m.links m.quotient m.remainder)
mean_says (Err r) = refuses (number_of r.fault) r.place

-- what is right to say where the verdict is v and the mean m
unfoldable pub mean_say : Verdict → Mean → MeanSaid
mean_say accepted m = gives m
mean_say (refused n a) m = refuses n a

-- the mean link weight of the family of the k-clique c of a sheet at threshold t
unfoldable pub mean_at : List ℕ → ℕ → ℕ → ℕ → Mean
unfolding mean_of family_links links_of
mean_at s k t c = mean_of (family_links (links_of s) (parts s) k t c)

-- x is a k-clique of the sheet at threshold t
unfoldable pub is_clique_at : List ℕ → ℕ → ℕ → ℕ → Bool
unfolding any family links_of
is_clique_at s k t x = any (eqb x) (family (links_of s) (parts s) k t)

-- the sheet's checks, 10 and 11, then 13, at t: the tables are zeroed where these pass
unfoldable pub check_clique : List ℕ → ℕ → ℕ → ℕ → Tables → Verdict
unfolding check_call is_clique_at unless ◌then◌
check_clique s k t c T = check_call s k T then unless (is_clique_at s k t c) 13 0

-- the whole order: then 15, for the slots that the links at t need
unfoldable pub check_mean : List ℕ → ℕ → ℕ → ℕ → Tables → Verdict
unfolding check_clique enough slots_for unless ◌then◌
check_mean s k t c T = check_clique s k t c T then unless (enough (length T.entries) (slots_for s k t)) 15 0

-- what is to be done where the checks before 15 let the call pass: 15, where what it counts fits the slots or not, then the mean m
abbrev pub MeanRuns : Bool → Mean → Result FamilyMean Refusal → Type 0
MeanRuns fits m r = mean_says r ≡ mean_say (unless fits 15 0) m

-- what the call must do: r is its answer, T are the tables before it and U those after it
pub record MeanMeets (s : List ℕ) (k t c : ℕ) (T : Tables) (r : Result FamilyMean Refusal) (U : Tables) : Type 0 where
  pub answer : mean_says r ≡ mean_say (check_mean s k t c T) (mean_at s k t c)
  -- zeroed whenever it came as far as 15
  pub tables : U ≡ left (check_clique s k t c T) T
