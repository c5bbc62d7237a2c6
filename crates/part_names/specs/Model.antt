-- What the searches of names find. Assumes nothing.
use Rattle.std.specs.Prelude.{Bool, true, false, ◌≡◌, ℕ, ◌<◌, Option, MatchOption}

-- the first below p that fails the test, if one does
abbrev pub FirstFault : (ℕ → Bool) → ℕ → Option ℕ → Type 0
FirstFault test p result =
    MatchOption result ((q : ℕ) → q < p → test q ≡ true) (λ r. (r < p) × ((q : ℕ) → q < r → test q ≡ true) × (test r ≡ false))
