-- The form of a part's name, names that are alike, and names checked in order. Assumes nothing.
use Rattle.std.specs.Prelude.{Bool, true, false, cond, not, ◌&&◌, [], List, ◌∷◌, ◌≡◌, ℕ, ◌<◌, eqb, take, drop}
use Rattle.answers.specs.Verdict.{Verdict, ◌then◌, unless, in_order}
use Rattle.sets.specs.Lists.{any, below, same}
use Rattle.percolation.specs.Ranges.{in_range}

unfoldable pub visible : ℕ → Bool
visible b = in_range 33 126 b

unfoldable pub spaces : List ℕ → Bool
spaces [] = true
spaces (b ∷ bs) = eqb b 32 && spaces bs

-- visible bytes, then spaces to the end
unfoldable pub visible_then_spaces : List ℕ → Bool
unfolding visible spaces
visible_then_spaces [] = true
visible_then_spaces (b ∷ bs) = cond (visible b) (visible_then_spaces bs) (spaces (b ∷ bs))

-- the same, and at least one visible byte
unfoldable pub is_name : List ℕ → Bool
unfolding visible visible_then_spaces
is_name [] = false
is_name (b ∷ bs) = visible b && visible_then_spaces bs

-- the eight bytes at a place
abbrev pub eight_at : List ℕ → ℕ → List ℕ
eight_at s a = take 8 (drop a s)

-- name q equals an earlier one, byte for byte; f q are the bytes of name q
unfoldable pub repeated : (ℕ → List ℕ) → ℕ → Bool
unfolding any same below
repeated f q = any (λ r. same (f r) (f q)) (below q)

-- p names in order: 5 for the first that is none, then 21 for the first that an earlier one equals; place q is the place of name q
unfoldable pub check_names : (ℕ → List ℕ) → (ℕ → ℕ) → ℕ → Verdict
unfolding is_name repeated unless ◌then◌ in_order
check_names f place p = in_order (λ q. unless (is_name (f q)) 5 (place q)) p then in_order (λ q. unless (not (repeated f q)) 21 (place q)) p

-- of p names no two are equal
abbrev pub AllDiffer : (ℕ → List ℕ) → ℕ → Type 0
AllDiffer f p = (q r : ℕ) → q < r → r < p → f q ≡ f r → ⊥
