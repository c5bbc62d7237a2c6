-- What a text says: its parts, its links, and its faults in order. Assumes nothing.
use Rattle.std.specs.Prelude.{◌≡◌, Bool, true, false, not, ◌&&◌, List, [], ◌∷◌, ◌++◌, ℕ, zero, suc, ◌+◌, ◌*◌, ◌-◌, min, max, eqb, leb, ltb, length, drop, Result}
use Rattle.answers.specs.Verdict.{Verdict, accepted, refused, ◌then◌, unless}
use Rattle.sets.specs.Lists.{any, all, same}
use Rattle.percolation.specs.Ranges.{in_range, narrow_count}
use Rattle.percolation.specs.Links.{Link, link, linked}
use Rattle.part_names.specs.Names.{visible}
use Rattle.link_order.specs.Order.{LinkLists, has_room, with_links, sort_links}
use Rattle.answers.specs.declared.Refusal.{Refusal}
use Rattle.sheet.specs.declared.Counts.{Counts}
use Rattle.sheet.specs.Answers.{SheetSaid, holds, faulty, sheet_says}
use Rattle.words.specs.Lines.{Line, lines_of, line_says, Said, silent, part_said, link_said, neither}

-- ---- parts

-- a name has 1 to 8 bytes, each visible
unfoldable pub is_name : List ℕ → Bool
unfolding visible all
is_name x = in_range 1 8 (length x) && all visible x

-- a name in a field of n bytes, spaces behind it
unfoldable pub padded : ℕ → List ℕ → List ℕ
padded zero x = []
padded (suc n) [] = 32 ∷ padded n []
padded (suc n) (b ∷ bs) = b ∷ padded n bs

unfoldable pub name_bytes : List (List ℕ) → List ℕ
unfolding padded
name_bytes [] = []
name_bytes (x ∷ N) = padded 8 x ++ name_bytes N

-- a line after those that name the parts N, where n bytes are lent for names
unfoldable pub check_part : ℕ → List (List ℕ) → ℕ → Said → Verdict
unfolding is_name narrow_count any same unless ◌then◌
check_part n N a silent = accepted
check_part n N a (part_said x) =
    unless (is_name x) 5 a
    then unless (narrow_count (suc (length N))) 4 a
    then unless (not (any (same x) N)) 102 a
    then unless (leb (8 * suc (length N)) n) 16 0
check_part n N a (link_said x y w) = accepted
check_part n N a neither = refused 101 a

-- the parts with those that a line names
abbrev pub more_parts : List (List ℕ) → Said → List (List ℕ)
more_parts N silent = N
more_parts N (part_said x) = N ++ (x ∷ [])
more_parts N (link_said x y w) = N
more_parts N neither = N

unfoldable pub parts_after : List (List ℕ) → List Line → List (List ℕ)
unfolding line_says
parts_after N [] = N
parts_after N (l ∷ ls) = parts_after (more_parts N (line_says l)) ls

unfoldable pub check_parts : ℕ → List (List ℕ) → List Line → Verdict
unfolding line_says check_part ◌then◌
check_parts n N [] = accepted
check_parts n N (l ∷ ls) = check_part n N l.place (line_says l) then check_parts n (more_parts N (line_says l)) ls

-- the names of the parts, in order
unfoldable pub parts_of : List ℕ → List (List ℕ)
unfolding parts_after lines_of
parts_of text = parts_after [] (lines_of text)

-- ---- links

-- a part's number: the first that has this name; how many there are where none has
unfoldable pub number_of : List (List ℕ) → List ℕ → ℕ
unfolding same
number_of [] x = 0
number_of (y ∷ N) x = elim (same y x) [ true ↦ 0 | false ↦ suc (number_of N x) ]

unfoldable pub known : List (List ℕ) → List ℕ → Bool
unfolding number_of
known N x = ltb (number_of N x) (length N)

-- the number that digits give behind a number that is read
unfoldable pub value_from : ℕ → List ℕ → ℕ
value_from v [] = v
value_from v (b ∷ bs) = value_from (10 * v + (b - 48)) bs

unfoldable pub value : List ℕ → ℕ
unfolding value_from
value w = value_from 0 w

-- digits, and no more than a weight can be
unfoldable pub is_weight : List ℕ → Bool
unfolding all value
is_weight w = all (in_range 48 57) w && leb (value w) 65535

-- the link that a line gives, the lower part first
unfoldable pub link_given : List (List ℕ) → List ℕ → List ℕ → List ℕ → Link
unfolding number_of value
link_given N x y w = link (min (number_of N x) (number_of N y)) (max (number_of N x) (number_of N y)) (value w)

-- a line after those that give the links L, where the parts are N and the lists t are lent
unfoldable pub check_link : LinkLists → List (List ℕ) → List Link → ℕ → Said → Verdict
unfolding known number_of is_weight value linked has_room unless ◌then◌
check_link t N L a silent = accepted
check_link t N L a (part_said x) = accepted
check_link t N L a (link_said x y w) =
    unless (known N x) 103 a
    then unless (known N y) 103 a
    then unless (not (eqb (number_of N x) (number_of N y))) 6 a
    then unless (is_weight w) 104 a
    then unless (not (eqb (value w) 0)) 7 a
    then unless (not (linked L (number_of N x) (number_of N y))) 9 a
    then unless (has_room t (length L)) 16 0
check_link t N L a neither = accepted

abbrev pub more_links : List (List ℕ) → List Link → Said → List Link
more_links N L silent = L
more_links N L (part_said x) = L
more_links N L (link_said x y w) = L ++ (link_given N x y w ∷ [])
more_links N L neither = L

unfoldable pub links_after : List (List ℕ) → List Link → List Line → List Link
unfolding line_says link_given
links_after N L [] = L
links_after N L (l ∷ ls) = links_after N (more_links N L (line_says l)) ls

unfoldable pub check_links : LinkLists → List (List ℕ) → List Link → List Line → Verdict
unfolding line_says check_link link_given ◌then◌
check_links t N L [] = accepted
check_links t N L (l ∷ ls) = check_link t N L l.place (line_says l) then check_links t N (more_links N L (line_says l)) ls

-- the links of a text, as its lines give them
unfoldable pub text_links : List ℕ → List Link
unfolding links_after parts_of lines_of
text_links text = links_after (parts_of text) [] (lines_of text)

-- ---- the text

-- 101, 5, 4, 102, 16 line by line; 4 where no line names a part; then 103, 6, 104, 7, 9, 16 line by line. n bytes are lent for names, and the lists t
unfoldable pub check_text : List ℕ → ℕ → LinkLists → Verdict
unfolding check_parts parts_of check_links lines_of narrow_count unless ◌then◌
check_text text n t =
    check_parts n [] (lines_of text)
    then unless (narrow_count (length (parts_of text))) 4 (length text)
    then check_links t (parts_of text) [] (lines_of text)

-- what is right to say where the verdict is v
unfoldable pub text_say : Verdict → List ℕ → SheetSaid
unfolding parts_of text_links
text_say accepted text = holds (length (parts_of text)) (length (text_links text))
text_say (refused n a) text = faulty n a

-- what reading must do: r is its answer, names and t are lent, names2 and t2 are what it leaves; after a fault these are free
pub record TextMeets (text names : List ℕ) (t : LinkLists) (r : Result Counts Refusal) (names2 : List ℕ) (t2 : LinkLists) : Type 0 where
  pub answer : sheet_says r ≡ text_say (check_text text (length names) t) text
  pub names_left : check_text text (length names) t ≡ accepted → names2 ≡ name_bytes (parts_of text) ++ drop (8 * length (parts_of text)) names
  pub links_left : check_text text (length names) t ≡ accepted → t2 ≡ with_links (sort_links (text_links text)) t
