-- The lines of a text, a list of bytes; the words of a line, and what they say. Assumes nothing.
use Rattle.std.specs.Prelude.{◌≡◌, Bool, true, false, cond, ◌||◌, List, [], ◌∷◌, ℕ, suc, ◌+◌, ◌<◌, ◌≤◌, eqb, length, get_or, take, drop}
use Rattle.sets.specs.Lists.{keep, same}
use Rattle.words.specs.declared.Form.{Form}
use Rattle.words.specs.declared.Form.TheVariants.{Silent, Part, Link, Neither}

-- b before the first piece
abbrev pub on_first : ℕ → List (List ℕ) → List (List ℕ)
on_first b [] = (b ∷ []) ∷ []
on_first b (w ∷ ws) = (b ∷ w) ∷ ws

-- what stands before, between and behind the bytes that pass the test
unfoldable pub pieces : (ℕ → Bool) → List ℕ → List (List ℕ)
pieces parts [] = [] ∷ []
pieces parts (b ∷ bs) = elim (parts b) [ true ↦ [] ∷ pieces parts bs | false ↦ on_first b (pieces parts bs) ]

-- how many stand before the first that passes the test
unfoldable pub leading : (ℕ → Bool) → List ℕ → ℕ
leading f [] = 0
leading f (b ∷ bs) = elim (f b) [ true ↦ 0 | false ↦ suc (leading f bs) ]

-- ---- lines

-- a line, and the byte of the text where it starts
pub record Line : Type 0 where
  pub place : ℕ
  pub bytes : List ℕ

abbrev pub line : ℕ → List ℕ → Line
line a l = record { place = a; bytes = l }

-- the first of these lines starts at byte a
unfoldable pub lines_from : ℕ → List (List ℕ) → List Line
lines_from a [] = []
lines_from a (l ∷ ls) = line a l ∷ lines_from (suc (a + length l)) ls

-- the lines of a text, which end at a byte 10
unfoldable pub lines_of : List ℕ → List Line
unfolding lines_from pieces
lines_of text = lines_from 0 (pieces (eqb 10) text)

-- how many lines end among these bytes
unfoldable pub line_ends : List ℕ → ℕ
line_ends [] = 0
line_ends (b ∷ bs) = cond (eqb b 10) (line_ends bs + 1) (line_ends bs)

-- the number, from 1, of the line that holds the byte at a place
unfoldable pub line_of : List ℕ → ℕ → ℕ
unfolding line_ends
line_of text place = line_ends (take place text) + 1

-- ---- words

-- space, tab and carriage return part the words of a line
unfoldable pub blank : ℕ → Bool
blank b = eqb b 32 || (eqb b 9 || eqb b 13)

unfoldable pub some_bytes : List ℕ → Bool
some_bytes [] = false
some_bytes (b ∷ bs) = true

unfoldable pub words : List ℕ → List (List ℕ)
unfolding keep pieces blank some_bytes
words l = keep some_bytes (pieces blank l)

-- word n of the line l, counted from 0, starts at this place; the line ends there where it has no such word
pub record WordAt (l : List ℕ) (n place : ℕ) : Type 0 where
  pub fits : place ≤ length l
  pub starts : place < length l → blank (get_or l place 0) ≡ false
  pub left : words (drop place l) ≡ drop n (words l)

-- ---- what a line says

pub data Said : Type 0 where
  silent : Said
  part_said : List ℕ → Said
  link_said : List ℕ → List ℕ → List ℕ → Said
  neither : Said

-- a comment begins with #
unfoldable pub comment : List ℕ → Bool
comment [] = false
comment (b ∷ bs) = eqb b 35

-- the words part and link
abbrev pub part_word : List ℕ
part_word = 112 ∷ 97 ∷ 114 ∷ 116 ∷ []

abbrev pub link_word : List ℕ
link_word = 108 ∷ 105 ∷ 110 ∷ 107 ∷ []

-- behind `part` stands a name, behind `link` two names and a weight
unfoldable pub after_part : List (List ℕ) → Said
after_part [] = neither
after_part (x ∷ []) = part_said x
after_part (x ∷ y ∷ ws) = neither

unfoldable pub after_link : List (List ℕ) → Said
after_link [] = neither
after_link (x ∷ []) = neither
after_link (x ∷ y ∷ []) = neither
after_link (x ∷ y ∷ w ∷ []) = link_said x y w
after_link (x ∷ y ∷ w ∷ v ∷ ws) = neither

unfoldable pub words_say : List (List ℕ) → Said
unfolding comment same after_part after_link
words_say [] = silent
words_say (w ∷ ws) =
    cond (comment w) silent (cond (same w part_word) (after_part ws) (cond (same w link_word) (after_link ws) neither))

unfoldable pub line_says : Line → Said
unfolding words_say words
line_says l = words_say (words l.bytes)

-- what a form, as the code tells it, says of the words of a line
abbrev pub formed : Form → List (List ℕ) → Said
formed Silent ws = silent
formed Part ws = part_said (get_or ws 1 [])
formed Link ws = link_said (get_or ws 1 []) (get_or ws 2 []) (get_or ws 3 [])
formed Neither ws = neither
