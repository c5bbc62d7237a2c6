-- The definitions of a page compute: numbers in their columns, a line with no parts, one whose names take two rows, and lines that are refused.
-- Assumes nothing.
use mathlib.Core.Path.{◌≡◌, refl}
use mathlib.Core.List.{List, [], ◌∷◌, ◌++◌}
use Prim.Native.Nat.{ℕ}
use lib.ListN.{replicate}
use Rattle.answers.specs.Verdict.{accepted, refused}
use Rattle.percolation.specs.Tree.{Line, line, tree_bytes}
use Rattle.page.specs.Page.{blanks, six_columns, page_rows, check_page}

-- a name of one byte, and the sheet of eight such names and no link
abbrev name : ℕ → List ℕ
name b = b ∷ blanks 7

abbrev eight : List ℕ
eight = (80 ∷ 76 ∷ 83 ∷ 0 ∷ 1 ∷ 8 ∷ 0 ∷ 0 ∷ []) ++ name 65 ++ name 66 ++ name 67 ++ name 68 ++ name 69 ++ name 70 ++ name 71 ++ name 72

-- a line of the weight w and the union u; its other fields are no matter of a page
abbrev line_of : ℕ → ℕ → Line
line_of w u = line w 9 9 9 u

-- ---- columns

pub six_zero : six_columns 0 ≡ blanks 5 ++ (48 ∷ [])
unfolding six_columns
six_zero = refl

pub six_ten : six_columns 1020 ≡ blanks 2 ++ (49 ∷ 48 ∷ 50 ∷ 48 ∷ [])
unfolding six_columns
six_ten = refl

pub six_most : six_columns 999999 ≡ replicate 6 57
unfolding six_columns
six_most = refl

-- ---- rows

abbrev cell_for : ℕ → List ℕ
cell_for b = b ∷ blanks 9

-- no parts: one row with both numbers; parts 0 to 7: six names, then two; parts 1 and 7
pub three_lines : page_rows eight (tree_bytes (line_of 30 0 ∷ line_of 12 255 ∷ line_of 7 130 ∷ []))
    ≡ (blanks 5 ++ (49 ∷ []) ++ blanks 4 ++ (51 ∷ 48 ∷ []) ++ blanks 60 ++ (10 ∷ []))
    ∷ (blanks 5 ++ (50 ∷ []) ++ blanks 4 ++ (49 ∷ 50 ∷ []) ++ cell_for 65 ++ cell_for 66 ++ cell_for 67 ++ cell_for 68 ++ cell_for 69 ++ cell_for 70
    ++ (10 ∷ []))
    ∷ (blanks 12 ++ cell_for 71 ++ cell_for 72 ++ blanks 40 ++ (10 ∷ []))
    ∷ (blanks 5 ++ (51 ∷ []) ++ blanks 5 ++ (55 ∷ []) ++ cell_for 66 ++ cell_for 72 ++ blanks 40 ++ (10 ∷ []))
    ∷ []
unfolding page_rows tree_bytes
three_lines = refl

-- ---- what is refused

pub no_lines : check_page eight [] ≡ accepted
unfolding check_page
no_lines = refl

pub part_lacking : check_page eight (tree_bytes (line_of 4 255 ∷ line_of 4 256 ∷ [])) ≡ refused 24 0
unfolding check_page tree_bytes
part_lacking = refl

pub byte_short : check_page eight (tree_bytes (line_of 4 255 ∷ []) ++ (0 ∷ [])) ≡ refused 24 0
unfolding check_page tree_bytes
byte_short = refl

pub all_known : check_page eight (tree_bytes (line_of 4 255 ∷ line_of 0 0 ∷ [])) ≡ accepted
unfolding check_page tree_bytes
all_known = refl
