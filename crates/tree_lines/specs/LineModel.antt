-- Model of the code, on lists: a line in its place among others, and lines by the numbers that they go into and by their unions. What these steps give is
-- proved of them (proofs/). Assumes nothing.
use Rattle.std.specs.Prelude.{◌≡◌, Bool, cond, ◌&&◌, List, [], ◌∷◌, ◌++◌, ℕ, suc, ◌/◌, ◌<◌, ◌^◌, eqb, leb, length}
use Rattle.sets.specs.Lists.{◌∈◌, insert_by}
use Rattle.sets.specs.Sets.{before}
use Rattle.sets.specs.Value.{width, num, bytes, set_bytes, set_at}
use Rattle.records.specs.Numbers.{two_at, four_at}
use Rattle.tree_lines.specs.declared.Line as declared
use Rattle.percolation.specs.Tree.{Start, Line, line, whole_place, tree_bytes}
pub use Rattle.percolation.specs.Tree.{line_length}
pub use Rattle.tree_lines.specs.Count.{line_count}

-- a line as the code holds it
abbrev pub line_in : declared.Line → Line
line_in l = line l.weight l.joins l.into (num l.small) (num l.whole)

-- the bytes of a line
abbrev pub line_bytes : Line → List ℕ
line_bytes x = bytes 2 x.weight ++ bytes 4 x.joins ++ bytes 4 x.into ++ set_bytes x.small ++ set_bytes x.whole

-- the line whose bytes stand first in b
abbrev pub line_of : List ℕ → Line
line_of b = line (two_at b 0) (four_at b 2) (four_at b 6) (set_at b 10) (set_at b whole_place)

-- lines stand by their smallest cliques
abbrev pub by_line : Line → Line → Bool
by_line x y = before x.small y.small

-- the lines of the starts X, numbered from n, where line i goes into f i and has the union u i
unfoldable pub lines_with : (ℕ → ℕ) → (ℕ → ℕ) → ℕ → List Start → List Line
lines_with f u n [] = []
lines_with f u n (x ∷ X) = line x.weight (length x.joins) (f n) x.small (u n) ∷ lines_with f u (suc n) X

-- f, but v at m
unfoldable pub changed : (ℕ → ℕ) → ℕ → ℕ → ℕ → ℕ
changed f m v i = cond (eqb i m) v (f i)

-- an output that begins with the lines of the starts X, where line i goes into f i and has the union u i
abbrev pub holding : (ℕ → ℕ) → (ℕ → ℕ) → List Start → List ℕ → List ℕ
holding f u X rest = tree_bytes (lines_with f u 1 X) ++ rest

-- an output of `len` bytes has a line m, of n
unfoldable pub has_line : ℕ → ℕ → ℕ → Bool
has_line len n m = leb 1 m && (leb m n && leb m (len / line_length))

-- ---- what a call does to the output

-- `new` is `old` with the line y in its place among the lines from n on and below m, where there is room for one more behind them
abbrev pub PlacesLine : List ℕ → List ℕ → ℕ → ℕ → Line → Type 0
PlacesLine old new n m y =
    (X Y : List Line) (x rest : List ℕ) → old ≡ tree_bytes X ++ tree_bytes Y ++ x ++ rest → length X ≡ n → length (X ++ Y) ≡ m → length x ≡ line_length
    → ((z : Line) → z ∈ Y → z.small < 2 ^ width) → new ≡ tree_bytes X ++ tree_bytes (insert_by by_line y Y) ++ rest

-- `new` is `old` with its first n lines sent where `change` says, given where they went
abbrev pub Redirects : ((ℕ → ℕ) → ℕ → ℕ) → List ℕ → ℕ → List ℕ → Type 0
Redirects change old n new = (f u : ℕ → ℕ) (X : List Start) (rest : List ℕ) → old ≡ holding f u X rest → length X ≡ n → new ≡ holding (change f) u X rest

-- `new` is `old` with the unions of its first n lines as `change` says, given what they were
abbrev pub Regrows : ((ℕ → ℕ) → ℕ → ℕ) → List ℕ → ℕ → List ℕ → Type 0
Regrows change old n new = (f u : ℕ → ℕ) (X : List Start) (rest : List ℕ) → old ≡ holding f u X rest → length X ≡ n → new ≡ holding f (change u) X rest
