-- Model of the code, step by step on lists: marks at the level's end, lines in their places, their numbers, the lines that they go into, and the
-- unions that they grew to. What these steps give is proved of them (proofs/). Assumes nothing.
use Rattle.std.specs.Prelude.{◌≡◌, Bool, true, false, cond, not, ◌&&◌, ◌||◌, List, [], ◌++◌, map, ℕ, zero, suc, ◌+◌, ◌*◌, ◌%◌, ◌≤◌, ◌^◌, eqb, leb, ltb}
use Rattle.std.specs.Prelude.{length, drop}
use Rattle.sets.specs.Lists.{keep, insert_all}
use Rattle.sets.specs.Sets.{before}
use Rattle.sets.specs.Value.{row, store, number_at}
use Rattle.percolation.specs.Tree.{Start, Line, line, tree_bytes}
use Rattle.slots.specs.Tables.{root_of}
use Rattle.listings.specs.Model.{root_slots}
use Rattle.tree_lines.specs.LineModel.{line_length, by_line, lines_with, changed, holding, Redirects, Regrows}

-- ---- the end of a level

-- slot i ended a class at the end of the level before and ends none now
unfoldable pub absorbed : List ℕ → List ℕ → ℕ → Bool
unfolding root_of row
absorbed es us i = not (eqb (root_of es i) i) && not (eqb (row us i) 0)

-- one more class in a class that joins n lines: 0 stands for its own line alone
unfoldable pub more_joins : ℕ → ℕ
more_joins n = cond (eqb n 0) 2 (cond (ltb n 4294967295) (suc n) n)

-- The slots below n in turn: where the test passes at slot i, the row at place i is written anew.
unfoldable pub swept : (List ℕ → ℕ → Bool) → (ℕ → ℕ) → (ℕ → ℕ) → List ℕ → ℕ → List ℕ
unfolding number_at store
swept test place new us zero = us
swept test place new us (suc i) =
    elim (test (swept test place new us i) i) [
      | true ↦ store (swept test place new us i) (place i) (new (number_at (swept test place new us i) (place i)))
      | false ↦ swept test place new us i
    ]

-- the slot after each end counts the lines that its class joins
abbrev pub join_counts : List ℕ → List ℕ → ℕ → List ℕ
join_counts es us n = swept (absorbed es) (λ i. suc (root_of es i)) more_joins us n

-- the rows of slots below n that are no ends, empty
abbrev pub wiped : List ℕ → List ℕ → ℕ → List ℕ
wiped es us n = swept (λ xs i. not (eqb (root_of es i) i)) (λ i. i) (λ x. 0) us n

-- how many lines the class that ends at r joins, and whether it starts a line, where n slots were used before
unfoldable pub joins_at : List ℕ → ℕ → ℕ → ℕ
unfolding number_at
joins_at us n r = cond (leb n r) 0 (number_at us (suc r))

unfoldable pub starts_at : List ℕ → ℕ → ℕ → Bool
unfolding number_at
starts_at us n r = leb n r || not (eqb (number_at us (suc r)) 0)

-- the slots below m where a class ends that starts a line
unfoldable pub start_slots : List ℕ → List ℕ → ℕ → ℕ → List ℕ
unfolding keep starts_at root_slots
start_slots es us n m = keep (starts_at us n) (root_slots es m)

-- a line that starts at the slot r, which stands where the number of the line that it goes into will
unfoldable pub line_at : ℕ → List ℕ → List ℕ → ℕ → ℕ → Line
unfolding joins_at row
line_at w ms us n r = line w (joins_at us n r) r (row ms r) (row us r)

-- the lines that start, by smallest clique
unfoldable pub start_lines : ℕ → List ℕ → List ℕ → List ℕ → ℕ → ℕ → List Line
unfolding insert_all before line_at start_slots
start_lines w es ms us n m = insert_all by_line [] (map (line_at w ms us n) (start_slots es us n m))

-- ---- the numbers of the lines that start

-- what lines go into, by their numbers, and the two tables that say which line a class has
pub record Numbering : Type 0 where
  pub into : ℕ → ℕ
  pub smallest : List ℕ
  pub unions : List ℕ

abbrev pub numbering : (ℕ → ℕ) → List ℕ → List ℕ → Numbering
numbering f ms us = record { into = f; smallest = ms; unions = us }

-- the end of the class whose line m starts, which stands where the number of the line that it goes into will
unfoldable pub end_of : (ℕ → ℕ) → ℕ → ℕ
end_of f m = f m % 2 ^ 32

-- Line m starts at the slot r, and n slots were used before: the line that the class of r had goes into m, the number stands at the slot after r, and m
-- goes into none.
unfoldable pub numbered_at : ℕ → ℕ → ℕ → Numbering → Numbering
unfolding changed number_at store
numbered_at n r m N =
    numbering
    (changed (cond (ltb r n) (changed N.into (number_at N.smallest (suc r)) m) N.into) m 0)
    (store N.smallest (suc r) m)
    (store N.unions (suc r) 0)

-- the lines behind the first a, i of them, where n slots were used before
unfoldable pub numbered : ℕ → ℕ → ℕ → Numbering → Numbering
unfolding numbered_at end_of
numbered n a zero N = N
numbered n a (suc i) N = numbered_at n (end_of (numbered n a i N).into (suc (a + i))) (suc (a + i)) (numbered n a i N)

-- the lines of absorbed classes below n go into the lines of the classes where they end now
unfoldable pub went_into : List ℕ → List ℕ → List ℕ → (ℕ → ℕ) → ℕ → ℕ → ℕ
unfolding absorbed changed root_of number_at
went_into es ms us f zero = f
went_into es ms us f (suc i) =
    elim (absorbed es us i) [
      | true ↦ changed (went_into es ms us f i) (number_at ms (suc i)) (number_at ms (suc (root_of es i)))
      | false ↦ went_into es ms us f i
    ]

-- the lines of the classes that end below n have the unions that stand there, the others those that u says
unfoldable pub grew_to : List ℕ → List ℕ → List ℕ → (ℕ → ℕ) → ℕ → ℕ → ℕ
unfolding changed root_of number_at row
grew_to es ms us u zero = u
grew_to es ms us u (suc i) =
    elim (eqb (root_of es i) i) [
      | true ↦ changed (grew_to es ms us u i) (number_at ms (suc i)) (row us i)
      | false ↦ grew_to es ms us u i
    ]

-- the same, for lines that go into f, in these tables
abbrev pub numbers_of : ℕ → ℕ → ℕ → (ℕ → ℕ) → List ℕ → List ℕ → Numbering
numbers_of n a i f ms us = numbered n a i (numbering f ms us)

-- the output after the absorbed classes below i sent their lines into others
abbrev pub WentTo : List ℕ → List ℕ → List ℕ → List ℕ → ℕ → ℕ → List ℕ → Type 0
WentTo es ms us old n i out = Redirects (λ f. went_into es ms us f i) old n out

-- the output after the classes that end below i showed their unions in their lines
abbrev pub GrewTo : List ℕ → List ℕ → List ℕ → List ℕ → ℕ → ℕ → List ℕ → Type 0
GrewTo es ms us old n i out = Regrows (λ u. grew_to es ms us u i) old n out

-- the output after the slots below i: the lines that start there stand behind the first a, where there is room for those of `used` slots
abbrev pub FilledTo : ℕ → List ℕ → List ℕ → List ℕ → ℕ → ℕ → List ℕ → ℕ → ℕ → List ℕ → Type 0
FilledTo w es ms us n used old a i out =
    (X : List Line) (rest : List ℕ) → old ≡ tree_bytes X ++ rest → length X ≡ a → length (start_slots es us n used) * line_length ≤ length rest
    → out ≡ tree_bytes X ++ tree_bytes (start_lines w es ms us n i) ++ drop (length (start_slots es us n i) * line_length) rest

-- the tables and the output after line m of n has its number
abbrev pub NumbersOne : ℕ → ℕ → List ℕ → List ℕ → List ℕ → ℕ → List ℕ → List ℕ → List ℕ → Type 0
NumbersOne b m ms us old n ms' us' out =
    (f u : ℕ → ℕ) (X : List Start) (rest : List ℕ) → old ≡ holding f u X rest → length X ≡ n
    → (out ≡ holding (numbered_at b (end_of f m) m (numbering f ms us)).into u X rest) × (ms' ≡ store ms (suc (end_of f m)) m)
    × (us' ≡ store us (suc (end_of f m)) 0)

-- the tables and the output after i lines behind the first a have their numbers, of n lines
abbrev pub NumbersTo : ℕ → ℕ → ℕ → List ℕ → List ℕ → List ℕ → ℕ → List ℕ → List ℕ → List ℕ → Type 0
NumbersTo b a i ms us old n ms' us' out =
    (f u : ℕ → ℕ) (X : List Start) (rest : List ℕ) → old ≡ holding f u X rest → length X ≡ n
    → (out ≡ holding (numbers_of b a i f ms us).into u X rest) × (ms' ≡ (numbers_of b a i f ms us).smallest)
    × (us' ≡ (numbers_of b a i f ms us).unions)

-- What a level does to the two tables and to the output, where n lines stand and b slots were used before it, and cs are the counts. The starts X behind S
-- are those of the lines that start, where g gives the slots where their classes end, and for S the lines that they go into; u gives the unions of them all.
abbrev pub WritesLevel : ℕ → ℕ → ℕ → ℕ → List ℕ → List ℕ → List ℕ → List ℕ → List ℕ → List ℕ → List ℕ → Type 0
WritesLevel b used w n es ms cs old ms' us' out =
    (g u : ℕ → ℕ) (S X : List Start) (rest : List ℕ) → old ≡ holding g u S rest → length S ≡ n
    → start_lines w es ms cs b used ≡ lines_with g u (1 + n) X → length X * line_length ≤ length rest
    → (ms' ≡ (numbers_of b n (length X) g ms cs).smallest) × (us' ≡ wiped es (numbers_of b n (length X) g ms cs).unions used)
    × (out ≡ holding (went_into es (numbers_of b n (length X) g ms cs).smallest (numbers_of b n (length X) g ms cs).unions
    (numbers_of b n (length X) g ms cs).into b)
    (grew_to es (numbers_of b n (length X) g ms cs).smallest (numbers_of b n (length X) g ms cs).unions u used) (S ++ X)
    (drop (length X * line_length) rest))
