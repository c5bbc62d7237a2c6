-- What a typed line asks for. Assumes nothing.
use Rattle.std.specs.Prelude.{cond, List, [], ◌∷◌, ℕ}
use Rattle.sets.specs.Lists.{same}
use Rattle.words.specs.Lines.{Said, silent, part_said, link_said, neither, words, words_say}
use Rattle.typed.specs.declared.commands.Command.{Command}
use Rattle.typed.specs.declared.commands.Command.TheVariants as asked

-- the words back, list and quit
abbrev pub back_word : List ℕ
back_word = 98 ∷ 97 ∷ 99 ∷ 107 ∷ []

abbrev pub list_word : List ℕ
list_word = 108 ∷ 105 ∷ 115 ∷ 116 ∷ []

abbrev pub quit_word : List ℕ
quit_word = 113 ∷ 117 ∷ 105 ∷ 116 ∷ []

-- one of them, where it is all that the line has
unfoldable pub word_asks : List (List ℕ) → Command
unfolding same
word_asks [] = asked.Unknown
word_asks (w ∷ []) = cond (same w back_word) asked.Back (cond (same w list_word) asked.List (cond (same w quit_word) asked.Quit asked.Unknown))
word_asks (w ∷ v ∷ ws) = asked.Unknown

-- lines of a part or a link are those of a text for `families pack`
abbrev pub said_asks : Said → List (List ℕ) → Command
said_asks silent ws = asked.Silent
said_asks (part_said x) ws = asked.Part
said_asks (link_said x y w) ws = asked.Link
said_asks neither ws = word_asks ws

unfoldable pub line_asks : List ℕ → Command
unfolding word_asks words_say words
line_asks l = said_asks (words_say (words l)) (words l)
