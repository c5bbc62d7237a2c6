-- Model of the code: what the listing of a family of k-sets must be, with n slots; the call says which family that is. Assumes nothing.
use Rattle.std.specs.Prelude.{◌≡◌, Bool, true, List, ℕ, ◌≤◌, length}
use Rattle.answers.specs.Answers.{Answer}
use Rattle.sets.specs.Lists.{◌∈◌}
use Rattle.sets.specs.Sets.{size, sets_of}
use Rattle.sets.specs.Value.{width}
use Rattle.percolation.specs.Percolate.{communities, listing_bytes}
use Rattle.percolation.specs.Links.{slots}
use Rattle.percolation.specs.Steps.{enough}
use Rattle.runs.specs.OnSheet.{RunMeets}

-- whatever k-sets of parts below p they are: 15 where their slots outnumber n, else the listing of their communities; where the caller is sure that they
-- do not, it must be so
abbrev pub ListsFamily : Bool → List ℕ → ℕ → List ℕ → Answer → List ℕ → Type 0
ListsFamily sure F n old r out =
    (p k : ℕ) → p ≤ width → 2 ≤ k → ((x : ℕ) → x ∈ F → (size x ≡ k) × x ∈ sets_of p) → (sure ≡ true → enough n (slots p k F) ≡ true)
    → RunMeets (enough n (slots p k F)) (length (communities k F)) (listing_bytes (communities k F)) old r out
