-- The tree on a page of 72 columns: its rows, what it is refused for, and what the calls must do. Assumes nothing.
use Rattle.std.specs.Prelude.{◌≡◌, Bool, cond, ◌&&◌, ℕ, zero, suc, ◌+◌, ◌-◌, ◌*◌, ◌/◌, ◌%◌, ◌<◌, eqb, leb, ltb, length, get_or, drop, replicate}
use mathlib.Core.List.{List, [], ◌∷◌, ◌++◌, map, flatten}
use Rattle.answers.specs.Answers.{Answer}
use Rattle.answers.specs.Verdict.{Verdict, ◌then◌, unless, written}
use Rattle.answers.specs.Answers.{says, say_of}
use Rattle.sets.specs.Lists.{all, below}
use Rattle.sets.specs.Sets.{full, sub, members}
use Rattle.sets.specs.Value.{set_at}
use Rattle.records.specs.Numbers.{two_at}
use Rattle.percolation.specs.Tree.{line_length, whole_place}
use Rattle.sheet.specs.Sheet.{parts, name_of, check_sheet}
pub use Rattle.tree_lines.specs.Count.{line_count}

-- ---- a row

-- n columns of spaces
abbrev pub blanks : ℕ → List ℕ
blanks n = replicate n 32

-- the column of the number n for the unit 1, 10, 100, ..: its digit, or a space before the first digit
unfoldable pub column : ℕ → ℕ → ℕ
column n unit = cond (ltb n unit && ltb 1 unit) 32 (48 + n / unit % 10)

-- a number in six columns, right-aligned
unfoldable pub six_columns : ℕ → List ℕ
unfolding column
six_columns n = column n 100000 ∷ column n 10000 ∷ column n 1000 ∷ column n 100 ∷ column n 10 ∷ column n 1 ∷ []

-- the name of the first of the parts Q, left-aligned in ten columns; blank where there is none
unfoldable pub cell : List ℕ → List ℕ → List ℕ
cell s [] = blanks 10
cell s (q ∷ Q) = name_of s q ++ blanks 2

-- n cells, for the first n of the parts Q
unfoldable pub cells : List ℕ → ℕ → List ℕ → List ℕ
unfolding cell
cells s zero Q = []
cells s (suc n) Q = cell s Q ++ cells s n (drop 1 Q)

-- twelve columns, six names and the newline
unfoldable pub page_row : List ℕ → List ℕ → List ℕ → List ℕ
unfolding cells
page_row s front Q = front ++ cells s 6 Q ++ 10 ∷ []

-- 72 columns and a newline, which stands nowhere else
pub record IsRow (r : List ℕ) : Type 0 where
  pub long : length r ≡ 73
  pub ends : get_or r 72 0 ≡ 10
  pub columns : (i : ℕ) → i < 72 → get_or r i 0 ≡ 10 → ⊥

-- ---- the rows of a line, and of all

-- n rows whose first twelve columns are blank, six of the parts Q on each
unfoldable pub blank_rows : List ℕ → ℕ → List ℕ → List (List ℕ)
unfolding page_row
blank_rows s zero Q = []
blank_rows s (suc n) Q = page_row s (blanks 12) Q ∷ blank_rows s n (drop 6 Q)

-- how many rows n names take after the first: one for each six, and one for the last where they are fewer
abbrev pub further_rows : ℕ → ℕ
further_rows n = (n - 1) / 6

-- how many in all: one where there is no name
abbrev pub rows_for : ℕ → ℕ
rows_for n = suc (further_rows n)

-- line n, of the weight w, whose union has the parts Q: the first row has both numbers
unfoldable pub line_rows : List ℕ → ℕ → ℕ → List ℕ → List (List ℕ)
unfolding page_row blank_rows six_columns
line_rows s n w Q = page_row s (six_columns n ++ six_columns w) Q ∷ blank_rows s (further_rows (length Q)) (drop 6 Q)

-- the weight and the union of the line at place j, counted from 0
abbrev pub line_weight : List ℕ → ℕ → ℕ
line_weight b j = two_at b (j * line_length)

abbrev pub line_union : List ℕ → ℕ → ℕ
line_union b j = set_at b (j * line_length + whole_place)

-- the rows of the line at place j: its number is its position from 1
unfoldable pub rows_at : List ℕ → List ℕ → ℕ → List (List ℕ)
unfolding line_rows members set_at
rows_at s b j = line_rows s (suc j) (line_weight b j) (members (parts s) (line_union b j))

-- all rows of the lines b with the names of the sheet s, and the page
unfoldable pub page_rows : List ℕ → List ℕ → List (List ℕ)
unfolding rows_at below flatten
page_rows s b = flatten (map (rows_at s b) (below (line_count b)))

unfoldable pub page_of : List ℕ → List ℕ → List ℕ
unfolding page_rows flatten
page_of s b = flatten (page_rows s b)

-- ---- what a page is refused for: the sheet's own checks, 24, then 16

-- the union of the line at place j has parts below p only
unfoldable pub known : ℕ → List ℕ → ℕ → Bool
unfolding sub full set_at
known p b j = sub (line_union b j) (full p)

-- whole lines, 999,999 or fewer, and no part of a union that is not below p
unfoldable pub good_lines : ℕ → List ℕ → Bool
unfolding known all below
good_lines p b = eqb (length b % line_length) 0 && (leb (line_count b) 999999 && all (known p b) (below (line_count b)))

unfoldable pub check_page : List ℕ → List ℕ → Verdict
unfolding check_sheet good_lines unless ◌then◌
check_page s b = check_sheet s then unless (good_lines (parts s) b) 24 0

unfoldable pub check_put : List ℕ → List ℕ → ℕ → Verdict
unfolding check_page page_of unless ◌then◌
check_put s b room = check_page s b then unless (leb (length (page_of s b)) room) 16 0

-- ---- what the calls must do

-- the rows counted: the answer r
pub record RowsMeets (s b : List ℕ) (r : Answer) : Type 0 where
  pub answer : says r ≡ say_of (check_page s b) (length (page_rows s b))

-- the page written: the answer r, its count that of the rows, and the lent bytes before (`old`) and after (`out`)
pub record PageMeets (s b old : List ℕ) (r : Answer) (out : List ℕ) : Type 0 where
  pub answer : says r ≡ say_of (check_put s b (length old)) (length (page_rows s b))
  pub bytes : out ≡ written (check_put s b (length old)) (page_of s b) old
