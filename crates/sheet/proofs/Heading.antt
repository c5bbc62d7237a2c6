-- What a right length and an accepted head say. Assumes nothing.
use mathlib.Core.Path.{◌≡◌}
use mathlib.Core.Bool.{true}
use mathlib.Core.List.{List}
use Prim.Native.Nat.{ℕ, ◌≤◌}
use lib.Dec.{leb}
use lib.ListN.{length}
use borrow.Author.Tests.{eqb-true, leb-true}
use Rattle.answers.specs.Verdict.{accepted, unless}
use Rattle.answers.proofs.Laws.{then_four, unless_passed}
use Rattle.sets.proofs.Tests.{and_left, and_right}
use Rattle.percolation.specs.Ranges.{narrow_count}
use Rattle.sheet.specs.Sheet.{parts, links, link_at, has_mark, has_version, has_length, check_head}

pub length_least : (n : ℕ) (s : List ℕ) → has_length n s ≡ true → 8 ≤ length s
unfolding has_length
length_least n s h = leb-true 8 (length s) (and_left (leb 8 (length s)) _ h)

pub length_is : (n : ℕ) (s : List ℕ) → has_length n s ≡ true → length s ≡ n
unfolding has_length
length_is n s h = eqb-true (length s) n (and_right (leb 8 (length s)) _ h)

module _ (s : List ℕ) (e : check_head s ≡ accepted) where
  passed : (unless (has_mark 80 76 83 s) 1 0 ≡ accepted) × (unless (has_version 1 s) 2 3 ≡ accepted)
      × (unless (has_length (link_at s (links s)) s) 3 (length s) ≡ accepted) × (unless (narrow_count (parts s)) 4 5 ≡ accepted)
  unfolding check_head
  passed = then_four (unless (has_mark 80 76 83 s) 1 0) (unless (has_version 1 s) 2 3) (unless (has_length (link_at s (links s)) s) 3 (length s)) _ e

  pub head_mark : has_mark 80 76 83 s ≡ true
  head_mark = unless_passed _ _ _ passed.0

  pub head_version : has_version 1 s ≡ true
  head_version = unless_passed _ _ _ passed.1

  pub head_length_lem : has_length (link_at s (links s)) s ≡ true
  head_length_lem = unless_passed _ _ _ passed.2

  pub head_count : narrow_count (parts s) ≡ true
  head_count = unless_passed _ _ _ passed.3
