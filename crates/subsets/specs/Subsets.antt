-- How many subsets there are, the slot bound, and what a call for the slot bound checks. Assumes nothing.
use Rattle.std.specs.Prelude.{cond, ◌&&◌, ℕ, ◌-◌, eqb, leb, length}
use Rattle.answers.specs.Verdict.{Verdict, ◌then◌, unless}
use Rattle.sets.specs.Lists.{keep}
use Rattle.sets.specs.Sets.{size, sets_of}
use Rattle.percolation.specs.Ranges.{good_count, good_k}

-- C(n, r): the number of r-part subsets of n parts
unfoldable pub subset_count : ℕ → ℕ → ℕ
unfolding keep size sets_of
subset_count n r = length (keep (λ s. eqb (size s) r) (sets_of n))

-- what is answered: C(n, r) for n 0 to 64 and r 0 to 6, and 0 outside
unfoldable pub table_count : ℕ → ℕ → ℕ
table_count n r = cond (leb n 64 && leb r 6) (subset_count n r) 0

-- the slot bound, the worst-case length of the sequential run's tables: C(p, k-1) if p is at least k, else 0
unfoldable pub slot_bound : ℕ → ℕ → ℕ
slot_bound p k = cond (leb k p) (subset_count p (k - 1)) 0

-- the slot bound checks 4, then 10; its place is always 0
unfoldable pub check_bound : ℕ → ℕ → Verdict
unfolding good_count good_k unless ◌then◌
check_bound p k = unless (good_count p) 4 0 then unless (good_k k) 10 0
