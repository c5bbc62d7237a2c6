-- The sensor dump: where things stand in it, what it is refused for, and where, and the sheet that is made from it. A dump is a list of bytes. It has one
-- version and rows of eight bytes whatever becomes of sheets and of sets, so its numbers are its own. Assumes nothing.
use Rattle.std.specs.Prelude.{◌≡◌, List, ℕ, ◌+◌, ◌*◌, leb, length, get_or, take, drop}
use Rattle.answers.specs.Answers.{Answer}
use Rattle.answers.specs.Verdict.{Verdict, ◌then◌, unless, in_order, written}
use Rattle.answers.specs.Answers.{says, say_of}
use Rattle.sets.specs.Sets.{full, sub}
use Rattle.records.specs.Numbers.{two_at, four_at}
use Rattle.percolation.specs.Links.{Link}
use Rattle.percolation.specs.Ranges.{narrow_count}
use Rattle.part_names.specs.Names.{eight_at, check_names}
use Rattle.sheet.specs.Sheet.{list_of, has_mark, has_version, has_length}
use Rattle.made.specs.Made.{weighed, made_sheet}
use Rattle.dump_theory.specs.Rows.{together}

-- ---- where things stand

abbrev pub dump_parts : List ℕ → ℕ
dump_parts d = get_or d 5 0

abbrev pub rows_in : List ℕ → ℕ
rows_in d = two_at d 6

-- the first byte of a part's name, and of row i
abbrev pub dump_name_at : ℕ → ℕ
dump_name_at q = 8 + 8 * q

abbrev pub row_at : List ℕ → ℕ → ℕ
row_at d i = 8 + 8 * dump_parts d + 8 * i

-- the bytes of a part's name, and of all names
abbrev pub dump_name : List ℕ → ℕ → List ℕ
dump_name d q = eight_at d (dump_name_at q)

abbrev pub dump_names : List ℕ → List ℕ
dump_names d = take (8 * dump_parts d) (drop 8 d)

-- row i, the number of its eight bytes, the high one first; and all rows in order
abbrev pub row_of : List ℕ → ℕ → ℕ
row_of d i = four_at d (row_at d i) * 4294967296 + four_at d (row_at d i + 4)

unfoldable pub tripped : List ℕ → List ℕ
unfolding list_of
tripped d = list_of (row_of d) (rows_in d)

-- ---- what a dump is refused for: 17 three times, 4, names in order, then rows in order

unfoldable pub check_front : List ℕ → Verdict
unfolding has_mark has_version has_length narrow_count unless ◌then◌
check_front d =
    unless (has_mark 80 82 68 d) 17 0
    then unless (has_version 1 d) 17 3
    then unless (has_length (row_at d (rows_in d)) d) 17 (length d)
    then unless (narrow_count (dump_parts d)) 4 5

-- each part of row i is below the part count
unfoldable pub check_row : List ℕ → ℕ → Verdict
unfolding sub full unless
check_row d i = unless (sub (row_of d i) (full (dump_parts d))) 18 (row_at d i)

unfoldable pub check_dump : List ℕ → Verdict
unfolding check_front check_names check_row in_order ◌then◌
check_dump d = check_front d then check_names (dump_name d) dump_name_at (dump_parts d) then in_order (check_row d) (rows_in d)

-- ---- the sheet made

-- a link for each two parts that some row holds; its weight is the number of rows that hold both
unfoldable pub links_from : List ℕ → List Link
unfolding weighed together tripped
links_from d = weighed (together (tripped d)) (dump_parts d)

unfoldable pub sheet_from : List ℕ → List ℕ
unfolding made_sheet links_from
sheet_from d = made_sheet (dump_names d) (links_from d)

-- 16, after all else
unfoldable pub check_make : List ℕ → ℕ → Verdict
unfolding check_dump sheet_from unless ◌then◌
check_make d room = check_dump d then unless (leb (length (sheet_from d)) room) 16 0

-- the sheet of the dump d: the answer r, and the lent bytes before (`old`) and after (`out`)
pub record MakeMeets (d old : List ℕ) (r : Answer) (out : List ℕ) : Type 0 where
  pub answer : says r ≡ say_of (check_make d (length old)) (length (sheet_from d))
  pub bytes : out ≡ written (check_make d (length old)) (sheet_from d) old
