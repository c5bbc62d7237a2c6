-- The sheet of p parts with all pairs linked at weight 1, and what the call that writes it must do. Assumes nothing.
use Rattle.std.specs.Prelude.{◌≡◌, ℕ, ◌+◌, ◌/◌, ◌%◌, leb, length}
use mathlib.Core.List.{List, [], ◌∷◌, map, flatten}
use Rattle.answers.specs.Verdict.{Verdict, ◌then◌, unless, written}
use Rattle.answers.specs.Answers.{says, say_of}
use Rattle.answers.specs.Answers.{Answer}
use Rattle.sets.specs.Lists.{below}
use Rattle.percolation.specs.Links.{Link}
use Rattle.percolation.specs.Ranges.{narrow_count, good_k}
use Rattle.made.specs.Made.{weighed, made_sheet}

-- P and two digits, then spaces
unfoldable pub part_name : ℕ → List ℕ
part_name q = 80 ∷ (48 + q / 10) ∷ (48 + q % 10) ∷ 32 ∷ 32 ∷ 32 ∷ 32 ∷ 32 ∷ []

-- the names P00, P01 and on
unfoldable pub part_names : ℕ → List ℕ
unfolding flatten part_name below
part_names p = flatten (map part_name (below p))

-- all pairs, by lower then higher part, at weight 1
unfoldable pub full_links : ℕ → List Link
unfolding weighed
full_links p = weighed (λ l h. 1) p

unfoldable pub full_sheet : ℕ → List ℕ
unfolding made_sheet part_names full_links
full_sheet p = made_sheet (part_names p) (full_links p)

-- 4, 10, then 16 for an output of n bytes; every place is 0
unfoldable pub check_full : ℕ → ℕ → ℕ → Verdict
unfolding narrow_count good_k full_sheet unless ◌then◌
check_full p k n = unless (narrow_count p) 4 0 then unless (good_k k) 10 0 then unless (leb (length (full_sheet p)) n) 16 0

-- what the call must do: r is its answer, `old` the output before it and `out` that after it
pub record FullMeets (p k : ℕ) (old : List ℕ) (r : Answer) (out : List ℕ) : Type 0 where
  pub answer : says r ≡ say_of (check_full p k (length old)) (length (full_sheet p))
  pub bytes : out ≡ written (check_full p k (length old)) (full_sheet p) old
