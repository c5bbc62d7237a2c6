-- The link sheet: where things stand in it, what it is refused for, and where. A sheet is a list of bytes. Assumes nothing.
use Rattle.std.specs.Prelude.{Bool, ◌&&◌, List, map, ℕ, ◌+◌, ◌*◌, eqb, leb, length, get_or}
use Rattle.answers.specs.Verdict.{Verdict, ◌then◌, unless, in_order}
use Rattle.sets.specs.Lists.{below}
use Rattle.records.specs.Numbers.{two_at}
use Rattle.percolation.specs.Links.{Link, link}
use Rattle.percolation.specs.Ranges.{narrow_count}
use Rattle.percolation.specs.Steps.{check_link}
use Rattle.part_names.specs.Names.{eight_at, check_names}

-- ---- where things stand

abbrev pub byte : List ℕ → ℕ → ℕ
byte s i = get_or s i 0

abbrev pub version : List ℕ → ℕ
version s = two_at s 3

-- Part count, link count, the head's length, and the first bytes of a part's name and of a link are those of the sheet's version; there is one version.
abbrev pub parts : List ℕ → ℕ
parts s = byte s 5

abbrev pub links : List ℕ → ℕ
links s = two_at s 6

abbrev pub head_length : ℕ
head_length = 8

-- the bytes of a sheet that has k bytes of names and m links
abbrev pub sheet_length : ℕ → ℕ → ℕ
sheet_length k m = head_length + k + 4 * m

abbrev pub name_at : List ℕ → ℕ → ℕ
name_at s q = head_length + 8 * q

abbrev pub link_at : List ℕ → ℕ → ℕ
link_at s j = sheet_length (8 * parts s) j

-- the bytes of a part's name
abbrev pub name_of : List ℕ → ℕ → List ℕ
name_of s q = eight_at s (name_at s q)

-- f 0, f 1, .. f (n - 1)
unfoldable pub list_of : {A : Type 0} → (ℕ → A) → ℕ → List A
unfolding below
list_of f n = map f (below n)

-- link j, and all links in order
unfoldable pub link_of : List ℕ → ℕ → Link
link_of s j = link (byte s (link_at s j)) (byte s (link_at s j + 1)) (two_at s (link_at s j + 2))

unfoldable pub links_of : List ℕ → List Link
unfolding list_of link_of
links_of s = list_of (link_of s) (links s)

-- ---- 1 to 3: the head, with the tests that other forms of bytes begin with too

-- the first three bytes
unfoldable pub has_mark : ℕ → ℕ → ℕ → List ℕ → Bool
has_mark a b c s = leb 3 (length s) && (eqb (byte s 0) a && (eqb (byte s 1) b && eqb (byte s 2) c))

-- version v
unfoldable pub has_version : ℕ → List ℕ → Bool
has_version v s = leb 5 (length s) && eqb (version s) v

-- a whole head, and n bytes in all
unfoldable pub has_length : ℕ → List ℕ → Bool
has_length n s = leb head_length (length s) && eqb (length s) n

-- ---- the whole sheet: 1 to 4, names in order, then links in order with 6 to 9 at each

unfoldable pub check_head : List ℕ → Verdict
unfolding has_mark has_version has_length narrow_count unless ◌then◌
check_head s =
    unless (has_mark 80 76 83 s) 1 0
    then unless (has_version 1 s) 2 3
    then unless (has_length (link_at s (links s)) s) 3 (length s)
    then unless (narrow_count (parts s)) 4 5

unfoldable pub check_link_at : List ℕ → ℕ → Verdict
unfolding list_of link_of check_link
check_link_at s j = check_link (parts s) (list_of (link_of s) j) (link_of s j) (link_at s j)

unfoldable pub check_sheet : List ℕ → Verdict
unfolding check_head check_names check_link_at ◌then◌ in_order
check_sheet s = check_head s then check_names (name_of s) (name_at s) (parts s) then in_order (check_link_at s) (links s)
