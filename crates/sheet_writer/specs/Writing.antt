-- The bytes that a network is written as, what a network is refused for, and what the writer must do. Assumes nothing.
use Rattle.std.specs.Prelude.{◌≡◌, Bool, ◌&&◌, ℕ, ◌*◌, ◌/◌, ◌%◌, eqb, leb, length, get_or}
use mathlib.Core.List.{List, ◌∷◌, ◌++◌, map, flatten}
use Rattle.answers.specs.Verdict.{Verdict, ◌then◌, unless, in_order, written}
use Rattle.answers.specs.Answers.{says, say_of}
use Rattle.answers.specs.Answers.{Answer}
use Rattle.sets.specs.Value.{bytes}
use Rattle.percolation.specs.Links.{Link, link}
use Rattle.percolation.specs.Ranges.{narrow_count}
use Rattle.percolation.specs.Steps.{check_link}
use Rattle.part_names.specs.Names.{eight_at, check_names}
use Rattle.sheet.specs.Sheet.{list_of}
use Rattle.sheet.specs.declared.Network.{Network as Lent}
use Rattle.sheet.specs.Network.{Network}

abbrev pub parts_of : Network → ℕ
parts_of n = length n.names / 8

abbrev pub links_in : Network → ℕ
links_in n = length n.lower

-- the bytes of a part's name
abbrev pub eight_in : Network → ℕ → List ℕ
eight_in n q = eight_at n.names (8 * q)

-- link j, by the three lists
unfoldable pub link_in : Network → ℕ → Link
link_in n j = link (get_or n.lower j 0) (get_or n.higher j 0) (get_or n.weights j 0)

unfoldable pub link_bytes : Link → List ℕ
unfolding bytes
link_bytes l = bytes 1 l.low ++ bytes 1 l.high ++ bytes 2 l.weight

unfoldable pub head_bytes : ℕ → ℕ → List ℕ
unfolding bytes
head_bytes p m = 80 ∷ 76 ∷ 83 ∷ bytes 2 1 ++ bytes 1 p ++ bytes 2 m

-- its sheet
unfoldable pub sheet_of : Network → List ℕ
unfolding flatten list_of link_in link_bytes head_bytes
sheet_of n = head_bytes (parts_of n) (links_in n) ++ n.names ++ flatten (map link_bytes (list_of (link_in n) (links_in n)))

-- ---- what the writer checks: every place is 0

-- name bytes in eights, and lists of one length
unfoldable pub has_shape : Network → Bool
has_shape n = eqb (length n.names % 8) 0 && (eqb (length n.higher) (links_in n) && eqb (length n.weights) (links_in n))

-- the three lists that a call is lent have one length
abbrev pub SameLength : Lent → Type 0
SameLength n = (length n.higher.now ≡ length n.lower.now) × (length n.weights.now ≡ length n.lower.now)

unfoldable pub check_link_in : Network → ℕ → Verdict
unfolding list_of link_in check_link
check_link_in n j = check_link (parts_of n) (list_of (link_in n) j) (link_in n j) 0

unfoldable pub check_network : Network → Verdict
unfolding has_shape narrow_count check_names check_link_in unless ◌then◌ in_order
check_network n =
    unless (has_shape n) 3 0
    then unless (narrow_count (parts_of n)) 4 0
    then check_names (eight_in n) (λ q. 0) (parts_of n)
    then in_order (check_link_in n) (links_in n)

-- 16, after all else: the sheet's bytes have room in `room`
unfoldable pub check_write : Network → ℕ → Verdict
unfolding check_network sheet_of unless ◌then◌
check_write n room = check_network n then unless (leb (length (sheet_of n)) room) 16 0

-- `write` of the network n: its answer r, and the lent bytes before it (`old`) and after it (`out`)
pub record WriteMeets (n : Network) (old : List ℕ) (r : Answer) (out : List ℕ) : Type 0 where
  pub answer : says r ≡ say_of (check_write n (length old)) (length (sheet_of n))
  pub bytes : out ≡ written (check_write n (length old)) (sheet_of n) old
