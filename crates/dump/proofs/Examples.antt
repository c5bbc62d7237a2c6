-- The definitions of a dump compute: a small dump, its sheet and the two sums, and dumps with two faults, of which the first in their order stands. Assumes
-- nothing.
use mathlib.Core.Path.{◌≡◌, refl}
use mathlib.Core.List.{List, [], ◌∷◌, ◌++◌, map}
use Prim.Native.Nat.{ℕ}
use Rattle.answers.specs.Verdict.{accepted, refused}
use Rattle.percolation.specs.Links.{link}
use Rattle.percolation.specs.Weights.{sum, weight_sum}
use Rattle.dump_theory.specs.Rows.{pairs_in}
use Rattle.dump.specs.Dump.{tripped, links_from, sheet_from, check_dump, check_make}

-- a head, a name of one byte, and a row whose parts are all below 8
abbrev head_of : ℕ → ℕ → List ℕ
head_of p n = 80 ∷ 82 ∷ 68 ∷ 0 ∷ 1 ∷ p ∷ 0 ∷ n ∷ []

abbrev name : ℕ → List ℕ
name b = b ∷ 32 ∷ 32 ∷ 32 ∷ 32 ∷ 32 ∷ 32 ∷ 32 ∷ []

abbrev row : ℕ → List ℕ
row s = 0 ∷ 0 ∷ 0 ∷ 0 ∷ 0 ∷ 0 ∷ 0 ∷ s ∷ []

abbrev three : ℕ → List ℕ → List ℕ
three n l = head_of 3 n ++ name 65 ++ name 66 ++ name 67 ++ l

-- ---- a dump and its sheet

-- the rows hold parts 0 1 2, parts 0 1, no part, and part 2
abbrev pub small : List ℕ
small = three 4 (row 7 ++ row 3 ++ row 0 ++ row 4)

pub small_rows : tripped small ≡ 7 ∷ 3 ∷ 0 ∷ 4 ∷ []
unfolding tripped
small_rows = refl

pub small_links : links_from small ≡ link 0 1 2 ∷ link 0 2 1 ∷ link 1 2 1 ∷ []
unfolding links_from
small_links = refl

pub small_sheet : sheet_from small
    ≡ (80 ∷ 76 ∷ 83 ∷ 0 ∷ 1 ∷ 3 ∷ 0 ∷ 3 ∷ []) ++ name 65 ++ name 66 ++ name 67 ++ (0 ∷ 1 ∷ 0 ∷ 2 ∷ 0 ∷ 2 ∷ 0 ∷ 1 ∷ 1 ∷ 2 ∷ 0 ∷ 1 ∷ [])
unfolding sheet_from
small_sheet = refl

pub small_weights : weight_sum (links_from small) ≡ 4
unfolding weight_sum links_from
small_weights = refl

pub small_pairs : sum (map pairs_in (tripped small)) ≡ 4
unfolding sum pairs_in tripped
small_pairs = refl

-- the heavier link first: parts 1 and 2 twice, parts 0 and 1 once
pub falling_weight : sheet_from (three 3 (row 3 ++ row 6 ++ row 6))
    ≡ (80 ∷ 76 ∷ 83 ∷ 0 ∷ 1 ∷ 3 ∷ 0 ∷ 2 ∷ []) ++ name 65 ++ name 66 ++ name 67 ++ (1 ∷ 2 ∷ 0 ∷ 2 ∷ 0 ∷ 1 ∷ 0 ∷ 1 ∷ [])
unfolding sheet_from
falling_weight = refl

-- part 8 stands in the last byte but one, part 63 in the first
pub high_bytes : tripped (head_of 1 2 ++ name 65 ++ (0 ∷ 0 ∷ 0 ∷ 0 ∷ 0 ∷ 0 ∷ 1 ∷ 0 ∷ []) ++ (128 ∷ 0 ∷ 0 ∷ 0 ∷ 0 ∷ 0 ∷ 0 ∷ 0 ∷ [])) ≡ 256 ∷ 9223372036854775808 ∷ []
unfolding tripped
high_bytes = refl

-- ---- what is refused first

pub small_accepted : check_dump small ≡ accepted
unfolding check_dump
small_accepted = refl

-- a sheet is no dump, nor are no bytes
pub mark_first : check_dump (80 ∷ 76 ∷ 83 ∷ 0 ∷ 2 ∷ []) ≡ refused 17 0
unfolding check_dump
mark_first = refl

pub no_bytes : check_dump [] ≡ refused 17 0
unfolding check_dump
no_bytes = refl

-- the mark and no more; version 2, too short as well
pub mark_alone : check_dump (80 ∷ 82 ∷ 68 ∷ []) ≡ refused 17 3
unfolding check_dump
mark_alone = refl

pub version_two : check_dump (80 ∷ 82 ∷ 68 ∷ 0 ∷ 2 ∷ []) ≡ refused 17 3
unfolding check_dump
version_two = refl

-- too short for a head; a byte too many, and a part count of 0
pub too_short : check_dump (80 ∷ 82 ∷ 68 ∷ 0 ∷ 1 ∷ []) ≡ refused 17 5
unfolding check_dump
too_short = refl

pub length_first : check_dump (head_of 0 0 ++ (0 ∷ [])) ≡ refused 17 9
unfolding check_dump
length_first = refl

-- 4 before 18
pub count_zero : check_dump (head_of 0 1 ++ row 1) ≡ refused 4 5
unfolding check_dump
count_zero = refl

-- 5 at the second name, before 18 at the first row
pub name_first : check_dump (head_of 2 1 ++ name 65 ++ name 32 ++ row 4) ≡ refused 5 16
unfolding check_dump
name_first = refl

-- 21 at the later of two equal names, before 18 at the first row; 5 before it
pub name_again : check_dump (head_of 2 1 ++ name 65 ++ name 65 ++ row 4) ≡ refused 21 16
unfolding check_dump
name_again = refl

pub form_first : check_dump (head_of 3 1 ++ name 65 ++ name 65 ++ name 32 ++ row 8) ≡ refused 5 24
unfolding check_dump
form_first = refl

-- 18 at the second row: part 3 of three parts; the third has it too
pub part_too_many : check_dump (three 3 (row 7 ++ row 8 ++ row 8)) ≡ refused 18 40
unfolding check_dump
part_too_many = refl

-- 18 before 16, and 16 where one byte is lacking
pub row_first : check_make (three 1 (row 8)) 0 ≡ refused 18 32
unfolding check_make
row_first = refl

pub room_lacking : check_make small 43 ≡ refused 16 0
unfolding check_make
room_lacking = refl

pub room_enough : check_make small 44 ≡ accepted
unfolding check_make
room_enough = refl
