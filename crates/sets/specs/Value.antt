-- The value of a set that the code holds, of a table of such sets, and the bytes of a set, as numbers.
-- No other file says how many words a set has. Assumes nothing.
use Rattle.std.specs.Prelude.{Bool, cond, ℕ, zero, suc, ◌+◌, ◌*◌, ◌/◌, ◌%◌, ◌^◌, ltb, leb, eqb, length, replicate, take, drop}
use mathlib.Core.List.{List, [], ◌∷◌, ◌++◌, foldl}
use Rattle.std.proofs.lemmas.List.Edits.{sets}
use Rattle.sets.specs.declared.Set.{Set}
use Rattle.sets.specs.Words.{number, words, words_at}

-- how many words a set has, and how many parts it can hold
abbrev pub set_words : ℕ
set_words = 1

abbrev pub width : ℕ
width = 64 * set_words

unfoldable pub num : Set → ℕ
num s = s.word

-- how many sets a table holds, the set at i (empty past the end), and the table with the set of number n at i
unfoldable pub rows : List ℕ → ℕ
rows xs = length xs / set_words

unfoldable pub row : List ℕ → ℕ → ℕ
unfolding rows number words_at
row xs i = cond (ltb i (rows xs)) (number (words_at set_words xs (i * set_words))) 0

unfoldable pub store : List ℕ → ℕ → ℕ → List ℕ
unfolding rows words
store xs i n = cond (ltb i (rows xs)) (sets xs (i * set_words) (words set_words n)) xs

-- a table of n sets and no word more
unfoldable pub sized : List ℕ → ℕ → Bool
sized xs n = eqb (length xs) (n * set_words)

-- a number below 2 ^ 64 kept in a row that holds no set: `store` puts it there
unfoldable pub number_at : List ℕ → ℕ → ℕ
unfolding row
number_at xs i = row xs i % 2 ^ 64

-- a table with an empty row for each part
unfoldable pub no_rows : List ℕ
no_rows = replicate (width * set_words) 0

-- n bytes of x, high byte first
unfoldable pub bytes : ℕ → ℕ → List ℕ
bytes zero x = []
bytes (suc n) x = x / 256 ^ n % 256 ∷ bytes n x

-- how many bytes a set has
abbrev pub set_length : ℕ
set_length = 8 * set_words

-- a set in a listing or a tree line: its number, high byte first
unfoldable pub set_bytes : ℕ → List ℕ
unfolding bytes
set_bytes s = bytes set_length s

-- the number that bytes give, high byte first
unfoldable pub from_bytes : List ℕ → ℕ
from_bytes xs = foldl (λ n b. n * 256 + b) 0 xs

-- the list xs with the bytes of the set s from `at` on; xs itself where they do not fit
unfoldable pub with_set : List ℕ → ℕ → ℕ → List ℕ
unfolding set_bytes
with_set xs at s = cond (leb (at + set_length) (length xs)) (take at xs ++ set_bytes s ++ drop (at + set_length) xs) xs

-- the set whose bytes stand in xs from `at` on; the empty set where there are too few
unfoldable pub set_at : List ℕ → ℕ → ℕ
unfolding from_bytes
set_at xs at = cond (leb (at + set_length) (length xs)) (from_bytes (take set_length (drop at xs))) 0
