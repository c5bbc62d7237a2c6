-- Model of the code: what the functions that write a row know of the sheet and of the parts that are still to be named, the rows counted line by line, and
-- what a page that is written has passed.
-- Assumes nothing.
use Rattle.std.specs.Prelude.{◌≡◌, true, List, map, ℕ, ◌≤◌, length, drop}
use Rattle.answers.specs.Verdict.{accepted}
use Rattle.sets.specs.Lists.{from}
use Rattle.sets.specs.Sets.{full, sub, size, members}
use Rattle.sets.specs.Value.{width}
use Rattle.percolation.specs.Weights.{sum}
use Rattle.sheet.specs.Sheet.{parts, name_at}
use Rattle.page.specs.Page.{rows_for, line_count, line_union, page_of, check_page}

-- the sheet s has the names of all parts of the set u
pub record Named (s : List ℕ) (u : ℕ) : Type 0 where
  pub within : sub u (full (parts s)) ≡ true
  pub narrow : parts s ≤ width
  pub long : name_at s (parts s) ≤ length s

-- the parts of u, as the sheet numbers them
abbrev pub parts_in : List ℕ → ℕ → List ℕ
parts_in s u = members (parts s) u

-- r has the parts of u but the n lowest, and the sheet has their names
pub record Leaves (s : List ℕ) (u n r : ℕ) : Type 0 where
  pub rest : parts_in s r ≡ drop n (parts_in s u)
  pub named : Named s r

-- the rows of n lines from place j on
unfoldable pub rows_from : List ℕ → ℕ → ℕ → ℕ
unfolding sum from size
rows_from b j n = sum (map (λ i. rows_for (size (line_union b i))) (from j n))

-- the lines b have passed every check, n is their number, and the page takes `room` bytes
abbrev pub Fits : List ℕ → List ℕ → ℕ → ℕ → Type 0
Fits s b n room = (check_page s b ≡ accepted) × (n ≡ line_count b) × (room ≡ length (page_of s b))
