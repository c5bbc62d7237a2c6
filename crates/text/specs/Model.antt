-- What the code keeps and answers on the way, on lists; what it means is proved of it. Assumes nothing.
use Rattle.std.specs.Prelude.{◌≡◌, true, not, List, [], ◌++◌, ℕ, ◌+◌, ◌*◌, eqb, length, take, drop, cond, Option, Some, None, Result, Ok, Err}
use Rattle.answers.specs.Verdict.{Verdict, accepted, refused, ◌then◌, unless}
use Rattle.answers.specs.Answers.{Answer, says, say_of}
use Rattle.answers.specs.Faults.{number_of as fault_no}
use Rattle.answers.specs.declared.fault.Fault.{Fault}
use Rattle.sets.specs.Lists.{all}
use Rattle.sets.specs.Sets.{has}
use Rattle.sets.specs.Value.{row}
use Rattle.percolation.specs.Links.{Link, link}
use Rattle.percolation.specs.Ranges.{narrow_count}
use Rattle.checks.specs.Neighbours.{Neighbours}
use Rattle.checks.specs.Model.{marked}
use Rattle.link_order.specs.Order.{LinkLists, has_room, with_links, sort_links, put_link}
use Rattle.words.specs.Lines.{Said, silent, part_said, link_said, neither, lines_of}
use Rattle.checks.specs.declared.Link.{Link as Row}
use Rattle.checks.specs.Model.{as_link}
use Rattle.text.specs.Reading.{is_name, name_bytes, check_part, more_parts, check_parts, parts_of, known, number_of, is_weight, value, link_given, check_link, more_links, check_links, links_after}

-- ---- names

-- the names N stand, eight bytes each, at the start of a list
pub record Held (N : List (List ℕ)) (bytes : List ℕ) : Type 0 where
  pub stand : take (8 * length N) bytes ≡ name_bytes N
  pub named : all is_name N ≡ true

-- the part that has this name, if one has
unfoldable pub found : List (List ℕ) → List ℕ → Option ℕ
unfolding known number_of
found N x = cond (known N x) (Some (number_of N x)) None

-- the names N at the start of a list, and behind them what stood there
abbrev pub with_names : List (List ℕ) → List ℕ → List ℕ
with_names N names = name_bytes N ++ drop (8 * length N) names

-- what a line of pass 1 must do, after the names N
pub record PartMeets (N : List (List ℕ)) (a : ℕ) (s : Said) (names : List ℕ) (r : Answer) (names2 : List ℕ) : Type 0 where
  pub answer : says r ≡ say_of (check_part (length names) N a s) (length (more_parts N s))
  pub left : check_part (length names) N a s ≡ accepted → names2 ≡ with_names (more_parts N s) names

-- what pass 1 tells: the faults of its lines, and 4 where no line names a part
unfoldable pub check_names : List ℕ → ℕ → Verdict
unfolding check_parts parts_of lines_of narrow_count unless ◌then◌
check_names text n = check_parts n [] (lines_of text) then unless (narrow_count (length (parts_of text))) 4 (length text)

-- what pass 1 must do
pub record PartsMeet (text names : List ℕ) (r : Answer) (names2 : List ℕ) : Type 0 where
  pub answer : says r ≡ say_of (check_names text (length names)) (length (parts_of text))
  pub left : check_names text (length names) ≡ accepted → names2 ≡ with_names (parts_of text) names
  pub named : check_names text (length names) ≡ accepted → all is_name (parts_of text) ≡ true

-- ---- links

-- the fault of a link line's own words, at the place a
unfoldable pub check_fields : List (List ℕ) → ℕ → List ℕ → List ℕ → List ℕ → Verdict
unfolding known number_of is_weight value unless ◌then◌
check_fields N a x y w =
    unless (known N x) 103 a
    then unless (known N y) 103 a
    then unless (not (eqb (number_of N x) (number_of N y))) 6 a
    then unless (is_weight w) 104 a
    then unless (not (eqb (value w) 0)) 7 a

abbrev pub fields_check : Result (Row ℕ) Fault → ℕ → Verdict
fields_check (Ok l) a = accepted
fields_check (Err f) a = refused (fault_no f) a

abbrev pub fields_link : Result (Row ℕ) Fault → Link
fields_link (Ok l) = as_link l
fields_link (Err f) = link 0 0 0

-- what reading a link line's words must do
pub record FieldsMeet (N : List (List ℕ)) (x y w : List ℕ) (f : Result (Row ℕ) Fault) : Type 0 where
  pub checked : (a : ℕ) → fields_check f a ≡ check_fields N a x y w
  pub given : (a : ℕ) → check_fields N a x y w ≡ accepted → fields_link f ≡ link_given N x y w

-- a link against the rows of neighbours, and the room for it
unfoldable pub check_take : LinkLists → List ℕ → ℕ → ℕ → Link → Verdict
unfolding has row has_room unless ◌then◌
check_take t seen m a l = unless (not (has l.high (row seen l.low))) 9 a then unless (has_room t m) 16 0

-- what taking a link in must do
pub record TakeMeets (t : LinkLists) (seen : List ℕ) (m a : ℕ) (l : Link) (r : Answer) (t2 : LinkLists) (seen2 : List ℕ) : Type 0 where
  pub answer : says r ≡ say_of (check_take t seen m a l) (m + 1)
  pub lists : check_take t seen m a l ≡ accepted → t2 ≡ put_link l t m
  pub rows : check_take t seen m a l ≡ accepted → seen2 ≡ marked seen l.low l.high

-- the lists with what a line gives, after m links
abbrev pub took_link : List (List ℕ) → LinkLists → ℕ → Said → LinkLists
took_link N t m silent = t
took_link N t m (part_said x) = t
took_link N t m (link_said x y w) = put_link (link_given N x y w) t m
took_link N t m neither = t

-- what a line of pass 2 must do, after the links L
pub record LinkMeets (N : List (List ℕ)) (L : List Link) (a : ℕ) (s : Said) (t : LinkLists) (r : Answer) (t2 : LinkLists) (seen2 : List ℕ) : Type 0 where
  pub answer : says r ≡ say_of (check_link t N L a s) (length (more_links N L s))
  pub lists : check_link t N L a s ≡ accepted → t2 ≡ took_link N t (length L) s
  pub rows : check_link t N L a s ≡ accepted → Neighbours (more_links N L s) seen2

-- what pass 2 must do
pub record LinksMeet (text : List ℕ) (N : List (List ℕ)) (t : LinkLists) (r : Answer) (t2 : LinkLists) : Type 0 where
  pub answer : says r ≡ say_of (check_links t N [] (lines_of text)) (length (links_after N [] (lines_of text)))
  pub left : check_links t N [] (lines_of text) ≡ accepted → t2 ≡ with_links (sort_links (links_after N [] (lines_of text))) t
