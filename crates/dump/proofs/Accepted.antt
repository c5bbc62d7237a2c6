-- What an accepted dump passed. Assumes nothing.
use mathlib.Core.Path.{◌≡◌}
use mathlib.Core.Bool.{true}
use mathlib.Core.List.{List}
use Prim.Native.Nat.{ℕ, ◌≤◌, ◌<◌}
use lib.ListN.{length}
use Rattle.answers.specs.Verdict.{Verdict, accepted, ◌then◌, unless, in_order}
use Rattle.answers.proofs.Laws.{then_go, then_stop, then_left, then_right, then_four, unless_passed, order_each}
use Rattle.sets.specs.Sets.{full, sub}
use Rattle.percolation.specs.Ranges.{narrow_count}
use Rattle.percolation.proofs.Ranges.{narrow_count_lem}
use Rattle.part_names.specs.Names.{check_names}
use Rattle.sheet.specs.Sheet.{has_mark, has_version, has_length}
use Rattle.sheet.proofs.Heading.{length_is}
use Rattle.dump.specs.Dump.{dump_parts, rows_in, dump_name_at, dump_name, row_at, row_of, check_front, check_row, check_dump}

-- ---- up to 4

module _ (d : List ℕ) (e : check_front d ≡ accepted) where
  passed : (unless (has_mark 80 82 68 d) 17 0 ≡ accepted) × (unless (has_version 1 d) 17 3 ≡ accepted)
      × (unless (has_length (row_at d (rows_in d)) d) 17 (length d) ≡ accepted) × (unless (narrow_count (dump_parts d)) 4 5 ≡ accepted)
  unfolding check_front
  passed = then_four (unless (has_mark 80 82 68 d) 17 0) (unless (has_version 1 d) 17 3) (unless (has_length (row_at d (rows_in d)) d) 17 (length d)) _ e

  pub front_length : length d ≡ row_at d (rows_in d)
  front_length = length_is _ d (unless_passed _ _ _ passed.2)

  pub front_count : narrow_count (dump_parts d) ≡ true
  front_count = unless_passed _ _ _ passed.3

  pub front_most : dump_parts d ≤ 64
  front_most = (narrow_count_lem (dump_parts d) front_count).1

-- ---- the whole dump

module _ (d : List ℕ) where
  abbrev AllNames : Verdict
  AllNames = check_names (dump_name d) dump_name_at (dump_parts d)

  abbrev AllRows : Verdict
  AllRows = in_order (check_row d) (rows_in d)

  module _ (e : check_dump d ≡ accepted) where
    pub dump_front : check_front d ≡ accepted
    unfolding check_dump
    dump_front = then_left (check_front d) (AllNames then AllRows) e

    past_front : (AllNames then AllRows) ≡ accepted
    unfolding check_dump
    past_front = then_right (check_front d) (AllNames then AllRows) e

    pub dump_names_lem : AllNames ≡ accepted
    dump_names_lem = then_left AllNames AllRows past_front

    -- each part of a row is below the part count
    pub dump_within : (i : ℕ) → i < rows_in d → sub (row_of d i) (full (dump_parts d)) ≡ true
    unfolding check_row
    dump_within i h =
        unless_passed (sub (row_of d i) (full (dump_parts d))) 18 (row_at d i) (order_each (check_row d) (rows_in d) (then_right AllNames AllRows past_front) i h)

-- checks one after the other, and what the first of them say
pub ruleset checked_front = (then_go, then_stop, front_length, front_most)
