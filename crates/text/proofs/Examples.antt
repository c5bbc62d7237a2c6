-- Small texts, and what each is refused for. Assumes nothing.
use mathlib.Core.Path.{◌≡◌, refl}
use mathlib.Core.List.{List, [], ◌∷◌, map}
use Prim.Native.Nat.{ℕ}
use Rattle.answers.specs.Verdict.{Verdict, accepted, refused}
use Rattle.percolation.specs.Links.{link}
use Rattle.link_order.specs.Order.{LinkLists, link_lists}
use Rattle.text.specs.Reading.{parts_of, text_links, check_text}

-- a text, and its verdict where 16 bytes are lent for names, and lists of one entry
record Row : Type 0 where
  text : List ℕ
  says : Verdict

abbrev row : List ℕ → Verdict → Row
row t v = record { text = t; says = v }

abbrev lent : LinkLists
lent = link_lists (0 ∷ []) (0 ∷ []) (0 ∷ [])

-- "part a\npart b\n\tlink b  a 65535\r\n# end"
abbrev fine : Row
fine = row (112 ∷ 97 ∷ 114 ∷ 116 ∷ 32 ∷ 97 ∷ 10 ∷ 112 ∷ 97 ∷ 114 ∷ 116 ∷ 32 ∷ 98 ∷ 10 ∷ 9 ∷ 108 ∷ 105 ∷ 110 ∷ 107 ∷ 32 ∷ 98 ∷ 32 ∷ 32 ∷ 97 ∷ 32 ∷ 54 ∷ 53 ∷ 53 ∷ 51 ∷ 53 ∷ 13 ∷ 10 ∷ 35 ∷ 32 ∷ 101 ∷ 110 ∷ 100 ∷ []) accepted

-- "part a b\n"
abbrev neither : Row
neither = row (112 ∷ 97 ∷ 114 ∷ 116 ∷ 32 ∷ 97 ∷ 32 ∷ 98 ∷ 10 ∷ []) (refused 101 0)

-- "part a\npart 123456789\n"
abbrev long_name : Row
long_name = row (112 ∷ 97 ∷ 114 ∷ 116 ∷ 32 ∷ 97 ∷ 10 ∷ 112 ∷ 97 ∷ 114 ∷ 116 ∷ 32 ∷ 49 ∷ 50 ∷ 51 ∷ 52 ∷ 53 ∷ 54 ∷ 55 ∷ 56 ∷ 57 ∷ 10 ∷ []) (refused 5 7)

-- "part a\n\npart a\n"
abbrev name_twice : Row
name_twice = row (112 ∷ 97 ∷ 114 ∷ 116 ∷ 32 ∷ 97 ∷ 10 ∷ 10 ∷ 112 ∷ 97 ∷ 114 ∷ 116 ∷ 32 ∷ 97 ∷ 10 ∷ []) (refused 102 8)

-- "part a\npart b\npart c\n"
abbrev many_names : Row
many_names = row (112 ∷ 97 ∷ 114 ∷ 116 ∷ 32 ∷ 97 ∷ 10 ∷ 112 ∷ 97 ∷ 114 ∷ 116 ∷ 32 ∷ 98 ∷ 10 ∷ 112 ∷ 97 ∷ 114 ∷ 116 ∷ 32 ∷ 99 ∷ 10 ∷ []) (refused 16 0)

-- "# none\n"
abbrev no_parts : Row
no_parts = row (35 ∷ 32 ∷ 110 ∷ 111 ∷ 110 ∷ 101 ∷ 10 ∷ []) (refused 4 7)

-- "link c a 5\npart a\npart b\n"
abbrev unknown : Row
unknown = row (108 ∷ 105 ∷ 110 ∷ 107 ∷ 32 ∷ 99 ∷ 32 ∷ 97 ∷ 32 ∷ 53 ∷ 10 ∷ 112 ∷ 97 ∷ 114 ∷ 116 ∷ 32 ∷ 97 ∷ 10 ∷ 112 ∷ 97 ∷ 114 ∷ 116 ∷ 32 ∷ 98 ∷ 10 ∷ []) (refused 103 0)

-- "part a\npart b\nlink a a 5"
abbrev one_end_lem : Row
one_end_lem = row (112 ∷ 97 ∷ 114 ∷ 116 ∷ 32 ∷ 97 ∷ 10 ∷ 112 ∷ 97 ∷ 114 ∷ 116 ∷ 32 ∷ 98 ∷ 10 ∷ 108 ∷ 105 ∷ 110 ∷ 107 ∷ 32 ∷ 97 ∷ 32 ∷ 97 ∷ 32 ∷ 53 ∷ []) (refused 6 14)

-- "part a\npart b\nlink a b 65536"
abbrev heavy : Row
heavy = row (112 ∷ 97 ∷ 114 ∷ 116 ∷ 32 ∷ 97 ∷ 10 ∷ 112 ∷ 97 ∷ 114 ∷ 116 ∷ 32 ∷ 98 ∷ 10 ∷ 108 ∷ 105 ∷ 110 ∷ 107 ∷ 32 ∷ 97 ∷ 32 ∷ 98 ∷ 32 ∷ 54 ∷ 53 ∷ 53 ∷ 51 ∷ 54 ∷ []) (refused 104 14)

-- "part a\npart b\nlink a b 0"
abbrev weightless : Row
weightless = row (112 ∷ 97 ∷ 114 ∷ 116 ∷ 32 ∷ 97 ∷ 10 ∷ 112 ∷ 97 ∷ 114 ∷ 116 ∷ 32 ∷ 98 ∷ 10 ∷ 108 ∷ 105 ∷ 110 ∷ 107 ∷ 32 ∷ 97 ∷ 32 ∷ 98 ∷ 32 ∷ 48 ∷ []) (refused 7 14)

-- "part a\npart b\nlink a b 5\nlink b a 6\n"
abbrev pair_twice : Row
pair_twice = row (112 ∷ 97 ∷ 114 ∷ 116 ∷ 32 ∷ 97 ∷ 10 ∷ 112 ∷ 97 ∷ 114 ∷ 116 ∷ 32 ∷ 98 ∷ 10 ∷ 108 ∷ 105 ∷ 110 ∷ 107 ∷ 32 ∷ 97 ∷ 32 ∷ 98 ∷ 32 ∷ 53 ∷ 10 ∷ 108 ∷ 105 ∷ 110 ∷ 107 ∷ 32 ∷ 98 ∷ 32 ∷ 97 ∷ 32 ∷ 54 ∷ 10 ∷ []) (refused 9 25)

abbrev rows : List Row
rows = fine ∷ neither ∷ long_name ∷ name_twice ∷ many_names ∷ no_parts ∷ unknown ∷ one_end_lem ∷ heavy ∷ weightless ∷ pair_twice ∷ []

pub examples : map (λ r. check_text r.text 16 lent) rows ≡ map (λ r. r.says) rows
unfolding check_text
examples = refl

pub fine_parts : parts_of fine.text ≡ (97 ∷ []) ∷ (98 ∷ []) ∷ []
unfolding parts_of
fine_parts = refl

pub fine_links : text_links fine.text ≡ link 0 1 65535 ∷ []
unfolding text_links
fine_links = refl
