-- What an iterator over the lines of a text has yet to give. Assumes nothing.
use Rattle.std.specs.Prelude.{true, false, List, [], ℕ, eqb, leb, length, drop}
use Rattle.std.specs.Borrow.{Bor}
use Rattle.text.specs.declared.walk.Lines.{Lines}
use Rattle.words.specs.Lines.{Line, line, lines_from, pieces}

-- the lines from byte a on; none past the end
unfoldable pub rest_of : List ℕ → ℕ → List Line
unfolding lines_from pieces
rest_of text a = elim (leb a (length text)) [ true ↦ lines_from a (pieces (eqb 10) (drop a text)) | false ↦ [] ]

unfoldable pub rest : Lines → List Line
unfolding rest_of
rest s = rest_of s.text.now s.at

-- a line as it is given: its place, and its bytes
abbrev pub line_given : ℕ × Bor (List ℕ) → Line
line_given x = line x.0 x.1.now
